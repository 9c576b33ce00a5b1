-- A step has one reply and leads to one state.
use Rattle.std.proofs.Common.{◌≡◌, ℕ, true, false, List, [], ◌∷◌, All, Option, Some, None, refl, sym, ◌∙◌, ap, subst}
use Rattle.std.specs.List.{AllByRecursion, AllZip}
use Rattle.dl_base.specs.Clashes.{Place, IsFirstClash, path_of}
use Rattle.dl_base.specs.Ontology.{Terminology, IsTerminology}
use Rattle.dl_base.specs.Query.{Question}
use Rattle.dl_base.specs.Replies.{Replied, IsReply, Answers, Inconsistent}
use Rattle.dl_base.specs.declared.axiom.NamedRole.{NamedRole}
use Rattle.dl_base.specs.declared.clash.Clash.{Clash}
use Rattle.dl_base.specs.declared.concept.Role.{Role}
use Rattle.dl_base.specs.declared.row.NamedRow.{NamedRow}
use Rattle.dl_base.specs.declared.row.NamedChange.{NamedChange}
use Rattle.dl_base.proofs.ClashLemmas.{first_clash_once, replies_once as base_replies_once}
use Rattle.dl_base.proofs.DerivationLemmas.{all-by}
use Rattle.clash_report.specs.Report.{IsNamedClash, IsNamedRole}
use Rattle.gen_arena.proofs.LawLemmas.{names_one}
use Rattle.table_report.specs.TableLines.{AreTableLines}
use Rattle.table_report.proofs.OrderLemmas.{lines_once}
use Rattle.base_store.specs.History.{History, Empty, Over, transaction_count, with_ontology, with_transaction}
use Rattle.reply_text.specs.declared.reply.Reply.{Reply}
use Rattle.reply_text.specs.declared.reply.Reply.TheVariants as reply
use Rattle.script_reader.specs.declared.request.Request.{Request}
use Rattle.base_engine.specs.State.{MachineState, IsBase, IsWithinLimits, Raises, put_session}
use Rattle.base_engine.specs.Requests.{IsGiven}
use Rattle.base_engine.specs.Steps.{AllStep, AreReplies, Commits, Counts, Does, IsReplyIn, StepsTo, appended}
use Rattle.base_engine.proofs.RefusedOnce.{refused_once}
use Rattle.base_engine.proofs.RowsOnce.{begins_once, counts_once, ontology_once, raises_once, rows_once}

-- ---- what is told by names

role_named_once : (o : Terminology) (r : Role) (m n : NamedRole) → IsNamedRole o r m → IsNamedRole o r n → m ≡ n
role_named_once o r m n a b =
    let name : m.name ≡ n.name = let e : Some m.name ≡ Some n.name = sym a.name ∙ b.name in cc in
    let inverse : m.inverse ≡ n.inverse = a.inverse ∙ sym b.inverse in
    λ i. record { name = name i; inverse = inverse i }

path_named_once : (o : Terminology) (path : List Role) (ms ns : List NamedRole) → AllZip (IsNamedRole o) path ms → AllZip (IsNamedRole o) path ns → ms ≡ ns
path_named_once o [] [] [] a b = refl
path_named_once o [] (m ∷ ms) ns a b = absurd a
path_named_once o [] [] (n ∷ ns) a b = absurd b
path_named_once o (r ∷ path) [] ns a b = absurd a
path_named_once o (r ∷ path) (m ∷ ms) [] a b = absurd b
path_named_once o (r ∷ path) (m ∷ ms) (n ∷ ns) a b =
    let head = role_named_once o r m n a.0 b.0 in
    let tail = path_named_once o path ms ns a.1 b.1 in
    λ i. head i ∷ tail i

clash_named_once : (o : Terminology) (p : Place) (c d : Clash) → IsNamedClash o p c → IsNamedClash o p d → c ≡ d
clash_named_once o p c d a b =
    let inclusion = a.inclusion ∙ sym b.inclusion in
    let name = a.name ∙ sym b.name in
    let path = path_named_once o (path_of p.element) c.path d.path a.path b.path in
    λ i. record { inclusion = inclusion i; name = name i; path = path i }

-- ---- a base

module _ (h : History) (within : IsWithinLimits h) where
  base_same : (o p : Terminology) (rows others : List NamedRow) → IsBase h o rows → IsBase h p others → (o ≡ p) × (rows ≡ others)
  base_same o p rows others a b = (ontology_once h o p a.ontology_is b.ontology_is, rows_once h rows others a.rows_are b.rows_are)

  pub reply_same : (q : Question) (o p : Terminology) (rows others : List NamedRow) (x y : Replied) → IsBase h o rows → IsBase h p others → IsReply o rows q x → IsReply p others q y → x ≡ y
  reply_same q o p rows others x y a b r s =
      let same = base_same o p rows others a b in
      base_replies_once p others (within p b.ontology_is) q x y (subst (λ (ys : List NamedRow). IsReply p ys q x) same.1 (subst (λ (z : Terminology). IsReply z rows q x) same.0 r)) s

  pub clash_same : (o p : Terminology) (rows others : List NamedRow) (x y : Option Place) → IsBase h o rows → IsBase h p others → IsFirstClash o rows x → IsFirstClash p others y → x ≡ y
  clash_same o p rows others x y a b r s =
      let same = base_same o p rows others a b in
      first_clash_once p others (within p b.ontology_is) x y (subst (λ (ys : List NamedRow). IsFirstClash p ys x) same.1 (subst (λ (z : Terminology). IsFirstClash z rows x) same.0 r)) s

  pub told_same : (o p : Terminology) (rows others : List NamedRow) (x y : Place) (c d : Clash) → IsBase h o rows → IsBase h p others → x ≡ y → IsNamedClash o x c → IsNamedClash p y d → c ≡ d
  told_same o p rows others x y c d a b same m n =
      clash_named_once p y c d (subst (λ (z : Place). IsNamedClash p z c) same (subst (λ (t : Terminology). IsNamedClash t x c) (ontology_once h o p a.ontology_is b.ontology_is) m)) n

  pub lines_same : (generation : Role → ℕ) (o p : Terminology) (rows others : List NamedRow) (xs ys : List (List ℕ)) → IsBase h o rows → IsBase h p others
      → AreTableLines o rows generation xs → AreTableLines p others generation ys → xs ≡ ys
  lines_same generation o p rows others xs ys a b r s =
      let same = base_same o p rows others a b in
      lines_once p others generation xs ys
      (subst (λ (zs : List NamedRow). AreTableLines p zs generation xs) same.1 (subst (λ (z : Terminology). AreTableLines z rows generation xs) same.0 r)) s

-- ---- a step

changes_same : (s : MachineState) (k : ℕ) (changes others : List NamedChange) → s.session k ≡ Some changes → s.session k ≡ Some others → changes ≡ others
changes_same s k changes others a b = let e : Some changes ≡ Some others = sym a ∙ b in cc

commits_once : (s : MachineState) (k n a r m b g : ℕ) (t u : MachineState) → Commits s k n a r t → Commits s k m b g u → (reply.Committed n a r ≡ reply.Committed m b g) × (t ≡ u)
commits_once s k n a r m b g t u x y =
    let changes : x.changes ≡ y.changes = changes_same s k x.changes y.changes x.were y.were in
    let generation : x.generation ≡ y.generation = raises_once s.history (with_transaction y.changes s.history) s.generation x.generation y.generation
    (subst (λ (cs : List NamedChange). Raises s.history (with_transaction cs s.history) s.generation x.generation) changes x.raises) y.raises in
    let state : t ≡ u = x.state ∙ (λ i. record (put_session k None s) { history = with_transaction (changes i) s.history; generation = generation i }) ∙ sym y.state in
    let number : n ≡ m = x.number_is ∙ ap (λ (z : MachineState). transaction_count z.history) state ∙ sym y.number_is in
    let counts = counts_once s.history u.history a r b g (subst (λ (z : MachineState). Counts s.history z.history a r) state x.counts) y.counts in
    (λ i. reply.Committed (number i) (counts.0 i) (counts.1 i), state)

reply_in_once : (s : MachineState) (q : Question) (one other : Reply) → IsWithinLimits s.history → IsReplyIn s q one → IsReplyIn s q other → one ≡ other
reply_in_once s q one other within (IsReplyIn.answered {keys = keys} o rows a x) (IsReplyIn.answered {keys = others} p ys b y) =
    ap reply.Answers (let same = reply_same s.history within q o p rows ys (Answers keys) (Answers others) a b x y in cc)
reply_in_once s q one other within (IsReplyIn.answered {keys = keys} o rows a x) (IsReplyIn.clashes p ys place b y named) =
    absurd (let same = reply_same s.history within q o p rows ys (Answers keys) (Inconsistent place) a b x y in cc)
reply_in_once s q one other within (IsReplyIn.clashes p ys place b y named) (IsReplyIn.answered {keys = keys} o rows a x) =
    absurd (let same = reply_same s.history within q o p rows ys (Answers keys) (Inconsistent place) a b x y in cc)
reply_in_once s q one other within (IsReplyIn.clashes {c = c} o rows place a x named) (IsReplyIn.clashes {c = d} p ys at b y spelled) =
    let same : place ≡ at = let e = reply_same s.history within q o p rows ys (Inconsistent place) (Inconsistent at) a b x y in cc in
    ap reply.Inconsistent (told_same s.history within o p rows ys place at c d a b same named spelled)

does_once : (s : MachineState) (q : Request) (one other : Reply) (t u : MachineState) → IsWithinLimits s.history → Does s q one t → Does s q other u → (one ≡ other) × (t ≡ u)
does_once s q one other t u within Does.block Does.block = (refl, refl)
does_once s q one other t u within Does.begin Does.begin = (refl, refl)
does_once s q one other t u within (Does.add {k = k} {r = r} changes a) (Does.add others b) =
    (refl, ap (λ (cs : List NamedChange). put_session k (Some (appended cs (record { add = true; row = r }))) s) (changes_same s k changes others a b))
does_once s q one other t u within (Does.del {k = k} {r = r} changes a) (Does.del others b) =
    (refl, ap (λ (cs : List NamedChange). put_session k (Some (appended cs (record { add = false; row = r }))) s) (changes_same s k changes others a b))
does_once s q one other t u within (Does.commit x) (Does.commit y) = commits_once s _ _ _ _ _ _ _ t u x y
does_once s q one other t u within Does.abort Does.abort = (refl, refl)
does_once s q one other t u within (Does.ask {q = asked} x) (Does.ask y) = (reply_in_once s asked one other within x y, refl)
does_once s q one other t u within Does.prepare Does.prepare = (refl, refl)
does_once s q one other t u within (Does.run {h = h} asked a x) (Does.run again b y) =
    (reply_in_once s again one other within (subst (λ (z : Question). IsReplyIn s z one) (names_one s.handles h asked again a b) x) y, refl)
does_once s q one other t u within Does.drop Does.drop = (refl, refl)
does_once s q one other t u within (Does.consistent o rows a x) (Does.consistent p ys b y) = (refl, refl)
does_once s q one other t u within (Does.consistent o rows a x) (Does.inconsistent p ys place b y named) =
    absurd (let same = clash_same s.history within o p rows ys None (Some place) a b x y in cc)
does_once s q one other t u within (Does.inconsistent p ys place b y named) (Does.consistent o rows a x) =
    absurd (let same = clash_same s.history within o p rows ys None (Some place) a b x y in cc)
does_once s q one other t u within (Does.inconsistent {c = c} o rows place a x named) (Does.inconsistent {c = d} p ys at b y spelled) =
    let same : place ≡ at = let e = clash_same s.history within o p rows ys (Some place) (Some at) a b x y in cc in
    (ap reply.Inconsistent (told_same s.history within o p rows ys place at c d a b same named spelled), refl)
does_once s q one other t u within (Does.tables {lines = lines} o rows a x) (Does.tables {lines = others} p ys b y) = (ap reply.Table (lines_same s.history within s.generation o p rows ys lines others a b x y), refl)
does_once s q one other t u within Does.tidy Does.tidy = (refl, refl)
does_once s q one other t u within (Does.reopen a) (Does.reopen b) = (refl, begins_once s.history t u a b)

pub steps_once : (s : MachineState) (q : Request) (one other : Reply) (t u : MachineState) → IsWithinLimits s.history → StepsTo s q one t → StepsTo s q other u → (one ≡ other) × (t ≡ u)
steps_once s q one other t u within (StepsTo.refused {e = e} a) (StepsTo.refused {e = f} b) = (ap reply.Error (refused_once s q e f a b), refl)
steps_once s q one other t u within (StepsTo.refused {e = e} a) (StepsTo.done accepted does) = absurd (accepted e a.holds)
steps_once s q one other t u within (StepsTo.done accepted does) (StepsTo.refused {e = e} a) = absurd (accepted e a.holds)
steps_once s q one other t u within (StepsTo.done accepted a) (StepsTo.done too b) = does_once s q one other t u within a b

-- ---- limits

limits_of : (h k : History) → h ≡ k → IsWithinLimits h → IsWithinLimits k
limits_of h k same within = subst IsWithinLimits same within

limits_more : (h : History) (changes : List NamedChange) → IsWithinLimits h → IsWithinLimits (with_transaction changes h)
limits_more Empty changes within = within
limits_more (Over o entries) changes within = within

limits_loaded : (h : History) (o : Terminology) → IsTerminology o → IsWithinLimits h → IsWithinLimits (with_ontology o h)
limits_loaded Empty o is within = λ p same. subst IsTerminology (some_same same) is
  where
    some_same : {p : Terminology} → Some o ≡ Some p → o ≡ p
    some_same e = cc
limits_loaded (Over x entries) o is within = within

does_within : (s : MachineState) (q : Request) (r : Reply) (t : MachineState) → IsGiven q → IsWithinLimits s.history → Does s q r t → IsWithinLimits t.history
does_within s q r t given within (Does.block {o = o}) = limits_loaded s.history o given within
does_within s q r t given within Does.begin = within
does_within s q r t given within (Does.add changes a) = within
does_within s q r t given within (Does.del changes a) = within
does_within s q r t given within (Does.commit c) = limits_of (with_transaction c.changes s.history) t.history (sym (ap (λ (z : MachineState). z.history) c.state)) (limits_more s.history c.changes within)
does_within s q r t given within Does.abort = within
does_within s q r t given within (Does.ask x) = within
does_within s q r t given within Does.prepare = within
does_within s q r t given within (Does.run p a x) = within
does_within s q r t given within Does.drop = within
does_within s q r t given within (Does.consistent o rows a x) = within
does_within s q r t given within (Does.inconsistent o rows place a x named) = within
does_within s q r t given within (Does.tables o rows a x) = within
does_within s q r t given within Does.tidy = within
does_within s q r t given within (Does.reopen a) = limits_of s.history t.history (sym a.history) within

pub stays_within : (s : MachineState) (q : Request) (r : Reply) (t : MachineState) → IsGiven q → IsWithinLimits s.history → StepsTo s q r t → IsWithinLimits t.history
stays_within s q r t given within (StepsTo.refused a) = within
stays_within s q r t given within (StepsTo.done accepted does) = does_within s q r t given within does

-- ---- a list of requests

all_once : (s : MachineState) (qs : List Request) (ones others : List Reply) (t u : MachineState) → IsWithinLimits s.history → AllByRecursion IsGiven qs → AllStep s qs ones t → AllStep s qs others u
    → (ones ≡ others) × (t ≡ u)
all_once s [] ones others t u within given a b = (a.0 ∙ sym b.0, a.1 ∙ sym b.1)
all_once s (q ∷ qs) [] others t u within given a b = absurd a
all_once s (q ∷ qs) (x ∷ ones) [] t u within given a b = absurd b
all_once s (q ∷ qs) (x ∷ ones) (y ∷ others) t u within given a b =
    let one = steps_once s q x y a.0 b.0 within a.1 b.1 in
    let rest = all_once b.0 qs ones others t u (stays_within s q y b.0 given.0 within b.1) given.1 (subst (λ (z : MachineState). AllStep z qs ones t) one.1 a.2) b.2 in
    (λ i. one.0 i ∷ rest.0 i, rest.1)

pub replies_once : (h : History) (qs : List Request) (ones others : List Reply) (t u : MachineState) → IsWithinLimits h → All IsGiven qs → AreReplies h qs ones t → AreReplies h qs others u
    → (ones ≡ others) × (t ≡ u)
replies_once h qs ones others t u within given a b =
    let first = begins_once h a.first b.first a.initial b.initial in
    all_once b.first qs ones others t u (limits_of h b.first.history (sym b.initial.history) within) (all-by IsGiven qs given)
    (subst (λ (z : MachineState). AllStep z qs ones t) first a.steps) b.steps
