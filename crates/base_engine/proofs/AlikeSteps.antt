-- From states that are alike each request has the same reply.
use Rattle.std.proofs.Common.{◌≡◌, ◌==◌, ℕ, ◌+◌, ◌<◌, List, [], ◌∷◌, ◌++◌, length, true, false, Option, Some, None, refl, sym, ◌∙◌, ap, subst, arith, if◌then◌else◌, length-append}
use Rattle.std.specs.Prelude.{sum_by}
use Rattle.std.proofs.lemmas.List.{map-append}
use Rattle.std.proofs.lemmas.List.Sums.{sum_by-append}
use Rattle.dl_base.specs.Ontology.{Terminology}
use Rattle.dl_base.specs.Query.{Question}
use Rattle.dl_base.specs.declared.concept.Role.{Role}
use Rattle.dl_base.specs.declared.row.NamedRow.{NamedRow}
use Rattle.dl_base.specs.declared.row.NamedChange.{NamedChange}
use Rattle.gen_arena.specs.Store.{HandleStore, IsGone, Names, next_handle, room_of, with_value, without}
use Rattle.gen_arena.specs.declared.handle.Gone.TheVariants as gone
use Rattle.table_report.specs.TableLines.{AreTableLines}
use Rattle.txn_codec.specs.Spelling.{changes_bytes, ontology_bytes}
use Rattle.base_store.specs.Area.{area_limit}
use Rattle.base_store.specs.History.{History, Empty, Over, IsAfterChanges, IsAfterTransactions, payloads, transaction_count, used, with_ontology, with_transaction}
use Rattle.base_store.specs.Legal.{IsCrowded}
use Rattle.reply_text.specs.declared.reply.Refusal.{Refusal}
use Rattle.reply_text.specs.declared.reply.Reply.{Reply}
use Rattle.reply_text.specs.declared.reply.Reply.TheVariants as reply
use Rattle.script_reader.specs.declared.command.Command.TheVariants as command
use Rattle.script_reader.specs.declared.request.Request.{Request}
use Rattle.script_reader.specs.declared.request.Request.TheVariants as request
use Rattle.base_engine.specs.Alike.{AlikeStepAlike, AreAlike, LookAlike}
use Rattle.base_engine.specs.State.{BecomesLiveIn, IsBase, IsInitial, IsLiveIn, Raises, MachineState, put_session}
use Rattle.base_engine.specs.Refusals.{IsAccepted, IsRefusedFor, RefusalHolds}
use Rattle.base_engine.specs.Steps.{Commits, Counts, Does, IsReplyIn, StepsTo, appended}

-- ---- histories

pub back : (g h : History) → LookAlike g h → LookAlike h g
back g h a = record { ontology_is = sym a.ontology_is; rows_are = λ rows. ((a.rows_are rows).1, (a.rows_are rows).0); count_is = sym a.count_is; used_is = sym a.used_is }

-- one transaction more behind an ontology
split : (old : List NamedRow) (es : List (List NamedChange)) (c : List NamedChange) (new : List NamedRow) → IsAfterTransactions old (es ++ c ∷ []) new
    → (mid : List NamedRow) × IsAfterTransactions old es mid × IsAfterChanges mid c new
split old [] c new (mid, first, is) = (old, refl, subst (λ (rows : List NamedRow). IsAfterChanges old c rows) (sym is) first)
split old (e ∷ es) c new (next, first, rest) = (let s = split next es c new rest in (s.0, (next, first, s.1), s.2))

join : (old : List NamedRow) (es : List (List NamedChange)) (c : List NamedChange) (mid new : List NamedRow) → IsAfterTransactions old es mid → IsAfterChanges mid c new
    → IsAfterTransactions old (es ++ c ∷ []) new
join old [] c mid new is last = (new, subst (λ (rows : List NamedRow). IsAfterChanges rows c new) is last, refl)
join old (e ∷ es) c mid new (next, first, rest) last = (next, first, join next es c mid new rest last)

used_more : (o : Terminology) (es : List (List NamedChange)) (c : List NamedChange) → used (Over o (es ++ c ∷ [])) ≡ used (Over o es) + (6 + length (changes_bytes c))
used_more o es c =
    let size = λ (payload : List ℕ). 6 + length payload in
    let more : sum_by size (payloads (Over o (es ++ c ∷ []))) ≡ sum_by size (payloads (Over o es)) + (0 + (6 + length (changes_bytes c)))
    = ap (λ (ps : List (List ℕ)). sum_by size (ontology_bytes o ∷ ps)) (map-append changes_bytes es (c ∷ [])) ∙ sum_by-append size (payloads (Over o es)) (changes_bytes c ∷ []) in
    omega (arith, more)

one_more : (g h : History) (c : List NamedChange) → LookAlike g h → LookAlike (with_transaction c g) (with_transaction c h)
one_more Empty Empty c a = a
one_more Empty (Over p fs) c a = absurd (let e : None ≡ Some p = a.ontology_is in cc)
one_more (Over o es) Empty c a = absurd (let e : Some o ≡ None = a.ontology_is in cc)
one_more (Over o es) (Over p fs) c a = record {
  ontology_is = a.ontology_is;
  rows_are = λ rows. (
    λ r. (let s = split [] es c rows r in join [] fs c s.0 rows ((a.rows_are s.0).0 s.1) s.2),
    λ r. (let s = split [] fs c rows r in join [] es c s.0 rows ((a.rows_are s.0).1 s.1) s.2),
  );
  count_is = omega (arith, a.count_is, length-append es (c ∷ []), length-append fs (c ∷ []));
  used_is = omega (arith, a.used_is, used_more o es c, used_more p fs c);
}

loaded : (g h : History) (o : Terminology) → LookAlike g h → LookAlike (with_ontology o g) (with_ontology o h)
loaded Empty Empty o a = record { ontology_is = refl; rows_are = λ rows. (λ r. r, λ r. r); count_is = refl; used_is = refl }
loaded Empty (Over p fs) o a = absurd (let e : None ≡ Some p = a.ontology_is in cc)
loaded (Over x es) Empty o a = absurd (let e : Some x ≡ None = a.ontology_is in cc)
loaded (Over x es) (Over p fs) o a = a

crowded : (g h : History) → LookAlike g h → IsCrowded g → IsCrowded h
crowded g h a c = record { rows = c.rows; are = (a.rows_are c.rows).0 c.are; individuals = c.individuals; names = c.names; many = c.many }

pub base : (g h : History) (o : Terminology) (rows : List NamedRow) → LookAlike g h → IsBase g o rows → IsBase h o rows
base g h o rows a b = record { ontology_is = sym a.ontology_is ∙ b.ontology_is; rows_are = (a.rows_are rows).0 b.rows_are }

live : (g h : History) (r : Role) → LookAlike g h → IsLiveIn g r → IsLiveIn h r
live g h r a l = record { o = l.o; rows = l.rows; base = base g h l.o l.rows a l.base; live = l.live }

becomes : (g h k l : History) (r : Role) → LookAlike g h → LookAlike k l → BecomesLiveIn g k r → BecomesLiveIn h l r
becomes g h k l r a b x = record { now = live k l r b x.now; not_before = λ was. x.not_before (live h g r (back g h a) was) }

raises : (g h k l : History) (before after : Role → ℕ) → LookAlike g h → LookAlike k l → Raises g k before after → Raises h l before after
raises g h k l before after a b x = record {
  raised = λ r y. x.raised r (becomes h g l k r (back g h a) (back k l b) y);
  kept = λ r not. x.kept r (λ y. not (becomes g h k l r a b y));
}

counts : (g h k l : History) (added removed : ℕ) → LookAlike g h → LookAlike k l → Counts g k added removed → Counts h l added removed
counts g h k l added removed a b c = record {
  old = c.old;
  old_are = (a.rows_are c.old).0 c.old_are;
  new = c.new;
  new_are = (b.rows_are c.new).0 c.new_are;
  come = c.come;
  come_are = c.come_are;
  added_is = c.added_is;
  gone = c.gone;
  gone_are = c.gone_are;
  removed_is = c.removed_is;
}

-- ---- states

alike_back : (s u : MachineState) → AreAlike s u → AreAlike u s
alike_back s u a = record { histories = back s.history u.history a.histories; sessions = sym a.sessions; handles = sym a.handles; generations = sym a.generations }

session_at : (s u : MachineState) (k : ℕ) (found : Option (List NamedChange)) → AreAlike s u → s.session k ≡ found → u.session k ≡ found
session_at s u k found a e = sym (ap (λ (f : ℕ → Option (List NamedChange)). f k) a.sessions) ∙ e

holds_alike : (s u : MachineState) (q : Request) (e : Refusal) → AreAlike s u → RefusalHolds s q e → RefusalHolds u q e
holds_alike s u q e a RefusalHolds.bad = RefusalHolds.bad
holds_alike s u q e a (RefusalHolds.no_ontology needs none) = RefusalHolds.no_ontology needs (sym a.histories.ontology_is ∙ none)
holds_alike s u q e a (RefusalHolds.ontology_there o has) = RefusalHolds.ontology_there o (sym a.histories.ontology_is ∙ has)
holds_alike s u q e a RefusalHolds.block = RefusalHolds.block
holds_alike s u q e a (RefusalHolds.not_open k needs closed) = RefusalHolds.not_open k needs (session_at s u k None a closed)
holds_alike s u q e a (RefusalHolds.already_open {k = k} changes are) = RefusalHolds.already_open changes (session_at s u k (Some changes) a are)
holds_alike s u q e a (RefusalHolds.unknown_name o k r has appends lacks) = RefusalHolds.unknown_name o k r (sym a.histories.ontology_is ∙ has) appends lacks
holds_alike s u q e a (RefusalHolds.unknown_in_query o p has poses lacks) = RefusalHolds.unknown_in_query o p (sym a.histories.ontology_is ∙ has) poses lacks
holds_alike s u q e a (RefusalHolds.pending k r changes appends are many) = RefusalHolds.pending k r changes appends (session_at s u k (Some changes) a are) many
holds_alike s u q e a (RefusalHolds.crowded {k = k} changes are many) =
    RefusalHolds.crowded changes (session_at s u k (Some changes) a are) (crowded _ _ (one_more s.history u.history changes a.histories) many)
holds_alike s u q e a (RefusalHolds.transaction_full {k = k} changes are full) =
    RefusalHolds.transaction_full changes (session_at s u k (Some changes) a are) (let same = (one_more s.history u.history changes a.histories).used_is in subst (λ (n : ℕ). area_limit < n) same full)
holds_alike s u q e a (RefusalHolds.never_given h uses is) = RefusalHolds.never_given h uses (subst (λ (x : HandleStore Question). IsGone x h gone.Never) a.handles is)
holds_alike s u q e a (RefusalHolds.dropped {last = last} h uses is) = RefusalHolds.dropped h uses (subst (λ (x : HandleStore Question). IsGone x h (gone.Dropped last)) a.handles is)
holds_alike s u q e a (RefusalHolds.no_slot full) = RefusalHolds.no_slot (sym (ap (λ (x : HandleStore Question). room_of x) a.handles) ∙ full)
holds_alike s u q e a (RefusalHolds.ontology_full {o = o} full) =
    RefusalHolds.ontology_full (let same = (loaded s.history u.history o a.histories).used_is in subst (λ (n : ℕ). area_limit < n) same full)

accepted_alike : (s u : MachineState) (q : Request) → AreAlike s u → IsAccepted s q → IsAccepted u q
accepted_alike s u q a accepted e h = accepted e (holds_alike u s q e (alike_back s u a) h)

refused_alike : (s u : MachineState) (q : Request) (e : Refusal) → AreAlike s u → IsRefusedFor s q e → IsRefusedFor u q e
refused_alike s u q e a r = record { holds = holds_alike s u q e a r.holds; first = λ f h. r.first f (holds_alike u s q f (alike_back s u a) h) }

-- ---- what is done

abbrev Follows : MachineState → MachineState → Request → Reply → Type 0
Follows u t q r = (v : MachineState) × Does u q r v × AreAlike t v

set_alike : (s u : MachineState) (k : ℕ) (found : Option (List NamedChange)) → AreAlike s u → AreAlike (put_session k found s) (put_session k found u)
set_alike s u k found a = record {
  histories = a.histories;
  sessions = λ i n. if n == k then found else a.sessions i n;
  handles = a.handles;
  generations = a.generations;
}

commit_alike : (s u t : MachineState) (k number added removed : ℕ) → AreAlike s u → Commits s k number added removed t → Follows u t (request.Plain (command.Commit k)) (reply.Committed number added removed)
commit_alike s u t k number added removed a c =
    let more = one_more s.history u.history c.changes a.histories in
    let v : MachineState = record (put_session k None u) { history = with_transaction c.changes u.history; generation = c.generation } in
    let there : t.history ≡ with_transaction c.changes s.history = ap (λ (z : MachineState). z.history) c.state in
    let alike : AreAlike t v = subst (λ (z : MachineState). AreAlike z v) (sym c.state)
    (record { histories = more; sessions = (set_alike s u k None a).sessions; handles = a.handles; generations = refl }) in (
      v,
      Does.commit (record {
        changes = c.changes;
        were = session_at s u k (Some c.changes) a c.were;
        generation = c.generation;
        raises = subst (λ (g : Role → ℕ). Raises u.history (with_transaction c.changes u.history) g c.generation) a.generations
            (raises s.history u.history (with_transaction c.changes s.history) (with_transaction c.changes u.history) s.generation c.generation a.histories more c.raises);
        state = refl;
        number_is = c.number_is ∙ ap transaction_count there ∙ more.count_is;
        counts = counts s.history u.history (with_transaction c.changes s.history) (with_transaction c.changes u.history) added removed a.histories more
            (subst (λ (h : History). Counts s.history h added removed) there c.counts);
      }),
      alike,
    )

reopen_alike : (s u t : MachineState) → AreAlike s u → IsInitial s.history t → Follows u t (request.Plain command.Reopen) (reply.Reopened (transaction_count s.history))
reopen_alike s u t a i =
    let v : MachineState = record t { history = u.history } in
    let initial : IsInitial u.history v = record {
      history = refl;
      closed = i.closed;
      none_given = i.none_given;
      live = λ r l. i.live r (live u.history s.history r (back s.history u.history a.histories) l);
      others = λ r not. i.others r (λ l. not (live s.history u.history r a.histories l));
    } in
    let does : Does u (request.Plain command.Reopen) (reply.Reopened (transaction_count s.history)) v =
    subst (λ (n : ℕ). Does u (request.Plain command.Reopen) (reply.Reopened n) v) (sym a.histories.count_is) (Does.reopen initial) in
    (v, does, record { histories = subst (λ (h : History). LookAlike h u.history) (sym i.history) a.histories; sessions = refl; handles = refl; generations = refl })

reply_alike : (s u : MachineState) (q : Question) (r : Reply) → AreAlike s u → IsReplyIn s q r → IsReplyIn u q r
reply_alike s u q r a (IsReplyIn.answered o rows b x) = IsReplyIn.answered o rows (base s.history u.history o rows a.histories b) x
reply_alike s u q r a (IsReplyIn.clashes o rows place b x named) = IsReplyIn.clashes o rows place (base s.history u.history o rows a.histories b) x named

handles_alike : (s u : MachineState) (x y : HandleStore Question) → AreAlike s u → x ≡ y → AreAlike (record s { handles = x }) (record u { handles = y })
handles_alike s u x y a same = record { histories = a.histories; sessions = a.sessions; handles = same; generations = a.generations }

does_alike : (s u t : MachineState) (q : Request) (r : Reply) → AreAlike s u → Does s q r t → Follows u t q r
does_alike s u t q r a (Does.block {o = o}) =
    (record u { history = with_ontology o u.history; generation = λ r. 0 }, Does.block, record { histories = loaded s.history u.history o a.histories; sessions = a.sessions; handles = a.handles; generations = refl })
does_alike s u t q r a (Does.begin {k = k}) = (put_session k (Some []) u, Does.begin, set_alike s u k (Some []) a)
does_alike s u t q r a (Does.add {k = k} {r = x} changes are) =
    (put_session k (Some (appended changes (record { add = true; row = x }))) u, Does.add changes (session_at s u k (Some changes) a are), set_alike s u k (Some (appended changes (record { add = true; row = x }))) a)
does_alike s u t q r a (Does.del {k = k} {r = x} changes are) =
    (put_session k (Some (appended changes (record { add = false; row = x }))) u, Does.del changes (session_at s u k (Some changes) a are), set_alike s u k (Some (appended changes (record { add = false; row = x }))) a)
does_alike s u t q r a (Does.commit {k = k} {number = number} {added = added} {removed = removed} c) = commit_alike s u t k number added removed a c
does_alike s u t q r a (Does.abort {k = k}) = (put_session k None u, Does.abort, set_alike s u k None a)
does_alike s u t q r a (Does.ask {q = p} x) = (u, Does.ask (reply_alike s u p r a x), a)
does_alike s u t q r a (Does.prepare {q = p}) =
    let v : MachineState = record u { handles = with_value p u.handles } in
    let given : Does u (request.Plain (command.Prepare p)) (reply.Prepared (next_handle s.handles)) v =
    subst (λ (x : HandleStore Question). Does u (request.Plain (command.Prepare p)) (reply.Prepared (next_handle x)) v) (sym a.handles) Does.prepare in
    (v, given, handles_alike s u (with_value p s.handles) (with_value p u.handles) a (ap (with_value p) a.handles))
does_alike s u t q r a (Does.run {h = h} p named x) = (u, Does.run p (subst (λ (y : HandleStore Question). Names y h p) a.handles named) (reply_alike s u p r a x), a)
does_alike s u t q r a (Does.drop {h = h}) =
    (record u { handles = without h u.handles }, Does.drop, handles_alike s u (without h s.handles) (without h u.handles) a (ap (without h) a.handles))
does_alike s u t q r a (Does.consistent o rows b x) = (u, Does.consistent o rows (base s.history u.history o rows a.histories b) x, a)
does_alike s u t q r a (Does.inconsistent o rows place b x named) = (u, Does.inconsistent o rows place (base s.history u.history o rows a.histories b) x named, a)
does_alike s u t q r a (Does.tables {lines = lines} o rows b x) =
    (u, Does.tables o rows (base s.history u.history o rows a.histories b) (subst (λ (g : Role → ℕ). AreTableLines o rows g lines) a.generations x), a)
does_alike s u t q r a Does.tidy = (u, Does.tidy, a)
does_alike s u t q r a (Does.reopen i) = reopen_alike s u t a i

pub alike_step_alike : AlikeStepAlike
alike_step_alike s u t q r a (StepsTo.refused {e = e} refused) = (u, StepsTo.refused (refused_alike s u q e a refused), a)
alike_step_alike s u t q r a (StepsTo.done accepted does) =
    let v = does_alike s u t q r a does in
    (v.0, StepsTo.done (accepted_alike s u q a accepted) v.1, v.2)
