-- A request is refused for one reason.
use Rattle.std.proofs.Common.{◌≡◌, ℕ, ◌<◌, ◌==◌, ◌⊎◌, inl, inr, List, length, take, get_or, Some, slice_get, Ok, Err, refl, sym, ◌∙◌, ap, subst, arith, if◌then◌else◌}
use Rattle.std.proofs.lemmas.List.{get_or-take, length-take-le}
use Rattle.std.proofs.lemmas.Option.{slice_get_within, get_or_from_slice_get}
use Rattle.dl_base.specs.Ontology.{Terminology}
use Rattle.dl_base.specs.Query.{Question}
use Rattle.dl_base.specs.declared.query.Atom.{Atom}
use Rattle.dl_base.specs.declared.query.Atom.TheVariants as atom
use Rattle.dl_base.specs.declared.row.NamedRow.{NamedRow}
use Rattle.axiom_reader.specs.declared.block.BlockError.{BlockError}
use Rattle.gen_arena.specs.Store.{IsGone}
use Rattle.gen_arena.specs.declared.handle.Handle.{Handle}
use Rattle.gen_arena.specs.declared.handle.Gone.TheVariants as gone
use Rattle.gen_arena.proofs.LawLemmas.{gone_once}
use Rattle.query_shape.specs.ShapeFault.{IsKnown, IsAtomFault, IsFirstFault}
use Rattle.query_shape.specs.declared.numbering.ShapeError.{ShapeError}
use Rattle.query_shape.specs.declared.numbering.ShapeError.TheVariants as unknown
use Rattle.reply_text.specs.declared.reply.Refusal.{Refusal}
use Rattle.reply_text.specs.declared.reply.Refusal.TheVariants as refusal
use Rattle.script_reader.specs.declared.command.Command.{Command}
use Rattle.script_reader.specs.declared.request.Request.{Request}
use Rattle.script_reader.specs.declared.request.Request.TheVariants as request
use Rattle.base_engine.specs.State.{MachineState}
use Rattle.base_engine.specs.Refusals.{AppendsChange, IsRefusedFor, LacksNameOf, LacksNameIn, PosesQuery, RefusalHolds, UsesHandle, rank}
use Rattle.base_engine.proofs.RowsOnce.{ontology_once}
use Rattle.base_store.specs.History.{ontology_of}

-- ---- names that the ontology lacks

lacks_once : (o : Terminology) (r : NamedRow) (e f : Refusal) → LacksNameOf o r e → LacksNameOf o r f → e ≡ f
lacks_once o r e f (LacksNameOf.concept a) (LacksNameOf.concept b) = refl
lacks_once o r e f (LacksNameOf.role a) (LacksNameOf.role b) = refl

-- the error names what the ontology lacks
abbrev pub NamesUnknown : ShapeError → Type 0
NamesUnknown (unknown.UnknownConcept name) = Unit {0}
NamesUnknown (unknown.UnknownRole name) = Unit {0}
NamesUnknown unknown.NoMemory = ⊥

pub not_known : (o : Terminology) (a : Atom) (e : ShapeError) → NamesUnknown e → IsAtomFault o a e → IsKnown o a → ⊥
not_known o (atom.Concept name t) (unknown.UnknownConcept told) tells fault known = fault.1 known
not_known o (atom.Concept name t) (unknown.UnknownRole told) tells fault known = fault
not_known o (atom.Role name t u) (unknown.UnknownConcept told) tells fault known = fault
not_known o (atom.Role name t u) (unknown.UnknownRole told) tells fault known = fault.1 known
not_known o a unknown.NoMemory tells fault known = tells

fault_same : (o : Terminology) (a : Atom) (e f : ShapeError) → NamesUnknown e → NamesUnknown f → IsAtomFault o a e → IsAtomFault o a f → e ≡ f
fault_same o (atom.Concept name t) (unknown.UnknownConcept x) (unknown.UnknownConcept y) s t' a b = ap unknown.UnknownConcept (a.0 ∙ sym b.0)
fault_same o (atom.Concept name t) (unknown.UnknownConcept x) (unknown.UnknownRole y) s t' a b = absurd b
fault_same o (atom.Concept name t) (unknown.UnknownRole x) f s t' a b = absurd a
fault_same o (atom.Role name t u) (unknown.UnknownConcept x) f s t' a b = absurd a
fault_same o (atom.Role name t u) (unknown.UnknownRole x) (unknown.UnknownConcept y) s t' a b = absurd b
fault_same o (atom.Role name t u) (unknown.UnknownRole x) (unknown.UnknownRole y) s t' a b = ap unknown.UnknownRole (a.0 ∙ sym b.0)
fault_same o a unknown.NoMemory f s t' x y = absurd s
fault_same o a e unknown.NoMemory s t' x y = absurd t'

not_before : (o : Terminology) (atoms : List Atom) (e f : ShapeError) → NamesUnknown e → (a : IsFirstFault o atoms e) (b : IsFirstFault o atoms f) → a.place < b.place → ⊥
not_before o atoms e f tells a b lt =
    let within : b.place < length atoms = slice_get_within atoms b.place b.atom b.there in
    let long : length (take b.place atoms) ≡ b.place = length-take-le b.place atoms (omega arith) in
    let same : get_or (take b.place atoms) a.place a.atom ≡ a.atom = get_or-take b.place atoms a.place a.atom lt ∙ get_or_from_slice_get atoms a.place a.atom a.atom a.there in
    not_known o a.atom e tells a.fault (subst (IsKnown o) same (b.before a.place a.atom (omega (arith, long, lt))))

fault_once : (o : Terminology) (atoms : List Atom) (e f : ShapeError) → NamesUnknown e → NamesUnknown f → IsFirstFault o atoms e → IsFirstFault o atoms f → e ≡ f
fault_once o atoms e f s t a b =
    let left = not_before o atoms e f s a b in
    let right = not_before o atoms f e t b a in
    let place : a.place ≡ b.place = omega (arith, left, right) in
    let there : slice_get atoms b.place ≡ Some a.atom = subst (λ (n : ℕ). slice_get atoms n ≡ Some a.atom) place a.there in
    let same : a.atom ≡ b.atom = let g : Some a.atom ≡ Some b.atom = sym there ∙ b.there in cc in
    fault_same o b.atom e f s t (subst (λ (x : Atom). IsAtomFault o x e) same a.fault) b.fault

lacks_in_once : (o : Terminology) (q : Question) (e f : Refusal) → LacksNameIn o q e → LacksNameIn o q f → e ≡ f
lacks_in_once o q e f (LacksNameIn.concept {name = x} a) (LacksNameIn.concept {name = y} b) =
    let same : unknown.UnknownConcept x ≡ unknown.UnknownConcept y = fault_once o q.atoms _ _ tt tt a b in cc
lacks_in_once o q e f (LacksNameIn.concept {name = x} a) (LacksNameIn.role {name = y} b) =
    let same : unknown.UnknownConcept x ≡ unknown.UnknownRole y = fault_once o q.atoms _ _ tt tt a b in absurd cc
lacks_in_once o q e f (LacksNameIn.role {name = x} a) (LacksNameIn.concept {name = y} b) =
    let same : unknown.UnknownRole x ≡ unknown.UnknownConcept y = fault_once o q.atoms _ _ tt tt a b in absurd cc
lacks_in_once o q e f (LacksNameIn.role {name = x} a) (LacksNameIn.role {name = y} b) =
    let same : unknown.UnknownRole x ≡ unknown.UnknownRole y = fault_once o q.atoms _ _ tt tt a b in cc

-- ---- the refusal of a rank

-- where it carries nothing
abbrev of_rank : ℕ → Refusal
of_rank n = if n == 5 then refusal.NoOntology else if n == 6 then refusal.OntologyThere else if n == 8 then refusal.NotOpen else if n == 9 then refusal.AlreadyOpen
    else if n == 11 then refusal.Pending else if n == 12 then refusal.Crowded else if n == 13 then refusal.LogFull else if n == 14 then refusal.NeverGiven else refusal.NoSlot

-- a refusal that carries a name that the ontology lacks, or the last generation of a slot
data Carries (s : MachineState) : Command → Refusal → Type 0 where
  in_row : {c : Command} {e : Refusal} (o : Terminology) (k : ℕ) (r : NamedRow) → ontology_of s.history ≡ Some o → AppendsChange c k r → LacksNameOf o r e → Carries s c e
  in_query : {c : Command} {e : Refusal} (o : Terminology) (q : Question) → ontology_of s.history ≡ Some o → PosesQuery c q → LacksNameIn o q e → Carries s c e
  in_slot : {c : Command} {last : ℕ} (h : Handle) → UsesHandle c h → IsGone s.handles h (gone.Dropped last) → Carries s c (refusal.Dropped last)

pub rank_row : (o : Terminology) (r : NamedRow) (e : Refusal) → LacksNameOf o r e → rank e ≡ 10
rank_row o r e (LacksNameOf.concept a) = refl
rank_row o r e (LacksNameOf.role a) = refl

pub rank_query : (o : Terminology) (q : Question) (e : Refusal) → LacksNameIn o q e → rank e ≡ 10
rank_query o q e (LacksNameIn.concept a) = refl
rank_query o q e (LacksNameIn.role a) = refl

rank_carrying : (s : MachineState) (c : Command) (e : Refusal) → Carries s c e → (rank e ≡ 10) ⊎ (rank e ≡ 15)
rank_carrying s c e (Carries.in_row o k r has appends lacks) = inl (rank_row o r e lacks)
rank_carrying s c e (Carries.in_query o q has poses lacks) = inl (rank_query o q e lacks)
rank_carrying s c e (Carries.in_slot h uses dropped) = inr refl

same_row : (c : Command) (k l : ℕ) (r x : NamedRow) → AppendsChange c k r → AppendsChange c l x → r ≡ x
same_row c k l r x AppendsChange.add AppendsChange.add = refl
same_row c k l r x AppendsChange.del AppendsChange.del = refl

same_query : (c : Command) (q p : Question) → PosesQuery c q → PosesQuery c p → q ≡ p
same_query c q p PosesQuery.ask PosesQuery.ask = refl
same_query c q p PosesQuery.prepare PosesQuery.prepare = refl

same_handle : (c : Command) (h j : Handle) → UsesHandle c h → UsesHandle c j → h ≡ j
same_handle c h j UsesHandle.run UsesHandle.run = refl
same_handle c h j UsesHandle.drop UsesHandle.drop = refl

-- a command appends a change, poses a query or uses a handle, and does one of these alone
row_or_query : (c : Command) (k : ℕ) (r : NamedRow) (q : Question) → AppendsChange c k r → PosesQuery c q → ⊥
row_or_query c k r q appends PosesQuery.ask = elim appends [ ]
row_or_query c k r q appends PosesQuery.prepare = elim appends [ ]

row_or_handle : (c : Command) (k : ℕ) (r : NamedRow) (h : Handle) → AppendsChange c k r → UsesHandle c h → ⊥
row_or_handle c k r h appends UsesHandle.run = elim appends [ ]
row_or_handle c k r h appends UsesHandle.drop = elim appends [ ]

query_or_handle : (c : Command) (q : Question) (h : Handle) → PosesQuery c q → UsesHandle c h → ⊥
query_or_handle c q h poses UsesHandle.run = elim poses [ ]
query_or_handle c q h poses UsesHandle.drop = elim poses [ ]

last_once : (s : MachineState) (h j : Handle) (m n : ℕ) → h ≡ j → IsGone s.handles h (gone.Dropped m) → IsGone s.handles j (gone.Dropped n) → m ≡ n
last_once s h j m n same a b =
    let e : gone.Dropped m ≡ gone.Dropped n = gone_once s.handles j (gone.Dropped m) (gone.Dropped n) (subst (λ (x : Handle). IsGone s.handles x (gone.Dropped m)) same a) b in cc

carried_once : (s : MachineState) (c : Command) (e f : Refusal) → Carries s c e → Carries s c f → e ≡ f
carried_once s c e f (Carries.in_row o k r has appends lacks) (Carries.in_row p l x its brings misses) =
    lacks_once p x e f (subst (λ (y : NamedRow). LacksNameOf p y e) (same_row c k l r x appends brings) (subst (λ (z : Terminology). LacksNameOf z r e) (ontology_once s.history o p has its) lacks)) misses
carried_once s c e f (Carries.in_row o k r has appends lacks) (Carries.in_query p q its poses misses) = absurd (row_or_query c k r q appends poses)
carried_once s c e f (Carries.in_row o k r has appends lacks) (Carries.in_slot h uses dropped) = absurd (row_or_handle c k r h appends uses)
carried_once s c e f (Carries.in_query p q its poses misses) (Carries.in_row o k r has appends lacks) = absurd (row_or_query c k r q appends poses)
carried_once s c e f (Carries.in_query o q has poses lacks) (Carries.in_query p x its asks misses) =
    lacks_in_once p x e f (subst (λ (y : Question). LacksNameIn p y e) (same_query c q x poses asks) (subst (λ (z : Terminology). LacksNameIn z q e) (ontology_once s.history o p has its) lacks)) misses
carried_once s c e f (Carries.in_query o q has poses lacks) (Carries.in_slot h uses dropped) = absurd (query_or_handle c q h poses uses)
carried_once s c e f (Carries.in_slot h uses dropped) (Carries.in_row o k r has appends lacks) = absurd (row_or_handle c k r h appends uses)
carried_once s c e f (Carries.in_slot h uses dropped) (Carries.in_query o q has poses lacks) = absurd (query_or_handle c q h poses uses)
carried_once s c e f (Carries.in_slot {last = m} h uses dropped) (Carries.in_slot {last = n} j others gone) =
    ap refusal.Dropped (last_once s h j m n (same_handle c h j uses others) dropped gone)

-- ---- one refusal of each rank

plain_holds : (s : MachineState) (c : Command) (e : Refusal) → RefusalHolds s (request.Plain c) e → (e ≡ of_rank (rank e)) ⊎ Carries s c e
plain_holds s c e (RefusalHolds.no_ontology needs none) = inl refl
plain_holds s c e (RefusalHolds.not_open k needs closed) = inl refl
plain_holds s c e (RefusalHolds.already_open changes are) = inl refl
plain_holds s c e (RefusalHolds.unknown_name o k r has appends lacks) = inr (Carries.in_row o k r has appends lacks)
plain_holds s c e (RefusalHolds.unknown_in_query o q has poses lacks) = inr (Carries.in_query o q has poses lacks)
plain_holds s c e (RefusalHolds.pending k r changes appends are many) = inl refl
plain_holds s c e (RefusalHolds.crowded changes are many) = inl refl
plain_holds s c e (RefusalHolds.transaction_full changes are full) = inl refl
plain_holds s c e (RefusalHolds.never_given h uses never) = inl refl
plain_holds s c e (RefusalHolds.dropped h uses dropped) = inr (Carries.in_slot h uses dropped)
plain_holds s c e (RefusalHolds.no_slot full) = inl refl

-- the refusal of such a rank carries something
not_of_rank : (e : Refusal) (n : ℕ) → (n ≡ 10) ⊎ (n ≡ 15) → rank e ≡ n → e ≡ of_rank (rank e) → ⊥
not_of_rank e n (inl ten) same is = let f : rank (of_rank 10) ≡ 10 = ap rank (sym (is ∙ ap of_rank (same ∙ ten))) ∙ same ∙ ten in omega (arith, f)
not_of_rank e n (inr fifteen) same is = let f : rank (of_rank 15) ≡ 15 = ap rank (sym (is ∙ ap of_rank (same ∙ fifteen))) ∙ same ∙ fifteen in omega (arith, f)

not_both : (s : MachineState) (c : Command) (e f : Refusal) → rank e ≡ rank f → e ≡ of_rank (rank e) → Carries s c f → ⊥
not_both s c e f same is carries = not_of_rank e (rank f) (rank_carrying s c f carries) same is

plain_once : (s : MachineState) (c : Command) (e f : Refusal) → rank e ≡ rank f → (e ≡ of_rank (rank e)) ⊎ Carries s c e → (f ≡ of_rank (rank f)) ⊎ Carries s c f → e ≡ f
plain_once s c e f same (inl a) (inl b) = a ∙ ap of_rank same ∙ sym b
plain_once s c e f same (inl a) (inr b) = absurd (not_both s c e f same a b)
plain_once s c e f same (inr a) (inl b) = absurd (not_both s c f e (sym same) b a)
plain_once s c e f same (inr a) (inr b) = carried_once s c e f a b

bad_holds : (s : MachineState) (x e : Refusal) → RefusalHolds s (request.Bad x) e → e ≡ x
bad_holds s x e RefusalHolds.bad = refl

taken_holds : (s : MachineState) (o : Terminology) (e : Refusal) → RefusalHolds s (request.Block (Ok o)) e → e ≡ of_rank (rank e)
taken_holds s o e (RefusalHolds.ontology_there p has) = refl
taken_holds s o e (RefusalHolds.ontology_full full) = refl

-- the refusal of a block that offends
abbrev of_block : BlockError → ℕ → Refusal
of_block x n = if n == 7 then refusal.Block x else refusal.OntologyThere

block_holds : (s : MachineState) (x : BlockError) (e : Refusal) → RefusalHolds s (request.Block (Err x)) e → e ≡ of_block x (rank e)
block_holds s x e (RefusalHolds.ontology_there p has) = refl
block_holds s x e RefusalHolds.block = refl

pub holds_once : (s : MachineState) (q : Request) (e f : Refusal) → RefusalHolds s q e → RefusalHolds s q f → rank e ≡ rank f → e ≡ f
holds_once s (request.Plain c) e f a b same = plain_once s c e f same (plain_holds s c e a) (plain_holds s c f b)
holds_once s (request.Block (Ok o)) e f a b same = taken_holds s o e a ∙ ap of_rank same ∙ sym (taken_holds s o f b)
holds_once s (request.Block (Err x)) e f a b same = block_holds s x e a ∙ ap (of_block x) same ∙ sym (block_holds s x f b)
holds_once s (request.Bad x) e f a b same = bad_holds s x e a ∙ sym (bad_holds s x f b)

pub refused_once : (s : MachineState) (q : Request) (e f : Refusal) → IsRefusedFor s q e → IsRefusedFor s q f → e ≡ f
refused_once s q e f a b = holds_once s q e f a.holds b.holds (let l = a.first f b.holds in let m = b.first e a.holds in omega (arith, l, m))
