-- Each input has a meaning.
use Rattle.std.proofs.Common.{◌≡◌, ℕ, ◌+◌, ◌⊎◌, inl, inr, List, [], ◌∷◌, ◌++◌, length, All, Option, Some, None, refl, ap}
use Rattle.std.specs.List.{AllZip}
use Rattle.std.proofs.lemmas.List.Elements.{All-head, All-tail}
use Rattle.dl_base.specs.Ontology.{Terminology}
use Rattle.dl_base.specs.Query.{Question}
use Rattle.dl_base.specs.Rows.{row_cmp}
use Rattle.dl_base.specs.Axiom.{Statement, IsStatement, with_names, IsNamed, IsNamedHead, AreNamed, Numbers, NumbersHead, NumbersInclusion, Passes, IsExtended}
use Rattle.dl_base.specs.declared.concept.Basic.{Basic}
use Rattle.dl_base.specs.declared.concept.Basic.TheVariants as basic
use Rattle.dl_base.specs.declared.concept.Head.{Head}
use Rattle.dl_base.specs.declared.concept.Head.TheVariants as head
use Rattle.dl_base.specs.declared.concept.Inclusion.{Inclusion}
use Rattle.dl_base.specs.declared.axiom.NamedBasic.{NamedBasic}
use Rattle.dl_base.specs.declared.axiom.NamedBasic.TheVariants as named
use Rattle.dl_base.specs.declared.axiom.NamedHead.{NamedHead}
use Rattle.dl_base.specs.declared.axiom.NamedHead.TheVariants as named_head
use Rattle.dl_base.specs.declared.axiom.NamedInclusion.{NamedInclusion}
use Rattle.dl_base.specs.declared.ontology.Which.{Which}
use Rattle.dl_base.proofs.ExtendLemmas.{all_named, names_there}
use Rattle.dl_base.proofs.InOrder.{in_order}
use Rattle.dl_base.proofs.PlaceLemmas.{place_of}
use Rattle.dl_base.proofs.RowLemmas.{row_total, row_same}
use Rattle.script_reader.specs.declared.doc_line.DocLine.{DocLine}
use Rattle.script_reader.specs.declared.doc_line.DocLine.TheVariants as line
use Rattle.script_reader.proofs.LineDecisions.{axiom_line_is}
use Rattle.document_run.specs.Document.{Context, nothing_said, with_line, Offends, Accepts, Accepted, code_of, Meaning, Refused, Asks, Means, IsDocument}
use Rattle.document_run.specs.Drafting.{KeepsOntology}
use Rattle.document_run.specs.declared.reason.Reason.{Reason}
use Rattle.document_run.specs.declared.reason.Reason.TheVariants as reason
use Rattle.document_run.proofs.FactLemmas.{rows_in_order}
use Rattle.script_reader.proofs.LineLemmas.{lines_of, are_lines}
use Rattle.document_run.proofs.OntologyLemmas.{axioms_pass, ontology_more, ontology_none, ontology_same}
use Rattle.document_run.proofs.ReasonDecisions.{Settled, settled_line}

-- ---- an axiom that passes no limit can be added

-- partners of all members
partners_of : {A B : Type 0} (R : A → B → Type 0) (P : A → Type 0) → ((a : A) → P a → (b : B) × R a b) → (xs : List A) → All P xs → (ys : List B) × AllZip R xs ys
partners_of R P partner [] all = ([], tt)
partners_of R P partner (x ∷ xs) all =
    let first = partner x (All-head P x xs all) in
    let rest = partners_of R P partner xs (All-tail P x xs all) in
    (first.0 ∷ rest.0, (first.1, rest.1))

module _ (cs rs : List (List ℕ)) where
  numbered_basic : (b : NamedBasic) → IsNamed cs rs b → (c : Basic) × Numbers cs rs b c
  numbered_basic (named.Concept name) there = (basic.Concept there.0, place_of cs name there)
  numbered_basic (named.Exists r) there = (basic.Exists (record { name = there.0; inverse = r.inverse }), (place_of rs r.name there, refl))

  numbered_head : (h : NamedHead) → IsNamedHead cs rs h → (k : Head) × NumbersHead cs rs h k
  numbered_head (named_head.Basic b) is = let number = numbered_basic b is in (head.Basic number.0, number.1)
  numbered_head named_head.Nothing is = (head.Nothing, tt)

  numbered_inclusion : (i : NamedInclusion) → AreNamed cs rs i → (j : Inclusion) × NumbersInclusion cs rs i j
  numbered_inclusion i are =
      let members = partners_of (Numbers cs rs) (IsNamed cs rs) numbered_basic i.body are.body in
      let implied = numbered_head i.head are.head in
      (record { body = members.0; head = implied.0 }, record { body = members.1; head = implied.1 })

extended_by : (o : Terminology) (a : Statement) → IsStatement a → ((w : Which) → Passes o a w → ⊥) → (new : Terminology) × IsExtended o a new
extended_by o a is fits =
    let cs : List (List ℕ) = with_names o.concepts a.concepts in
    let rs : List (List ℕ) = with_names o.roles a.roles in
    let are : All (AreNamed cs rs) a.inclusions = all_named a.concepts a.roles cs rs a.inclusions (λ n. names_there o.concepts a.concepts n) (λ n. names_there o.roles a.roles n) is.named in
    let more = partners_of (NumbersInclusion cs rs) (AreNamed cs rs) (numbered_inclusion cs rs) a.inclusions are in (
      record { concepts = cs; roles = rs; inclusions = o.inclusions ++ more.0 },
      record { passes_none = fits; concepts = refl; roles = refl; inclusions = record { added = more.0; last = refl; each = more.1 } },
    )

-- behind each line that is accepted there is an ontology of the axioms
next_ontology : (before : Context) (o : Terminology) → KeepsOntology before o → (text : List ℕ) (d : DocLine) → Accepts before text d → (new : Terminology) × KeepsOntology (with_line before d) new
next_ontology before o k text line.Blank accepts = (o, k)
next_ontology before o k text (line.Axiom a) accepts =
    let new = extended_by o a (axiom_line_is text a accepts.says) (λ w passes. accepts.fine reason.PassesLimit (line.Axiom a, accepts.says, axioms_pass before o k a w passes)) in
    (new.0, ontology_more before o k a new.0 new.1)
next_ontology before o k text (line.Fact r) accepts = (o, ontology_same before (with_line before (line.Fact r)) o refl k)
next_ontology before o k text (line.Ask q) accepts = (o, ontology_same before (with_line before (line.Ask q)) o refl k)

-- ---- from line to line

-- one of the lines is the first that offends
record SomeOffence (before : Context) (lines : List (List ℕ)) : Type 0 where
  front : List (List ℕ)
  text : List ℕ
  more : List (List ℕ)
  parts : lines ≡ front ++ text ∷ more
  middle : Context
  accepted : Accepted before front middle
  why : Reason
  offends : Offends middle text why

-- all lines are accepted, and their axioms make an ontology
record NoOffence (before : Context) (lines : List (List ℕ)) : Type 0 where
  after : Context
  accepted : Accepted before lines after
  ontology : Terminology
  keeps : KeepsOntology after ontology

along : (lines : List (List ℕ)) (before : Context) (o : Terminology) → KeepsOntology before o → SomeOffence before lines ⊎ NoOffence before lines
along [] before o k = inr (record { after = before; accepted = refl; ontology = o; keeps = k })
along (text ∷ lines) before o k =
    by (settled_line before text) (λ d accepts. let new = next_ontology before o k text d accepts in along lines (with_line before d) new.0 new.1)
  where
    behind : (d : DocLine) → Accepts before text d → SomeOffence (with_line before d) lines ⊎ NoOffence (with_line before d) lines → SomeOffence before (text ∷ lines) ⊎ NoOffence before (text ∷ lines)
    behind d accepts (inl f) = inl (record {
      front = text ∷ f.front;
      text = f.text;
      more = f.more;
      parts = ap (λ (l : List (List ℕ)). text ∷ l) f.parts;
      middle = f.middle;
      accepted = (d, accepts, f.accepted);
      why = f.why;
      offends = f.offends;
    })
    behind d accepts (inr fine) = inr (record { after = fine.after; accepted = (d, accepts, fine.accepted); ontology = fine.ontology; keeps = fine.keeps })

    by : Settled before text → ((d : DocLine) → Accepts before text d → SomeOffence (with_line before d) lines ⊎ NoOffence (with_line before d) lines)
        → SomeOffence before (text ∷ lines) ⊎ NoOffence before (text ∷ lines)
    by (inl (d, accepts)) later = behind d accepts (later d accepts)
    by (inr (why, offends)) later = inl (record { front = []; text = text; more = lines; parts = refl; middle = before; accepted = refl; why = why; offends = offends })

-- ---- the meaning

meaning_of : (lines : List (List ℕ)) → (m : Meaning) × Means lines m
meaning_of lines =
    let none : Terminology = record { concepts = []; roles = []; inclusions = [] } in
    by (along lines nothing_said none (ontology_none none refl))
  where
    asks : (fine : NoOffence nothing_said lines) (asked : Option Question) → fine.after.query ≡ asked → (m : Meaning) × Means lines m
    asks fine None is = (Refused 1 (length lines + 1), inr (record { after = fine.after; accepted = fine.accepted; none = is; code_is = refl; number = refl }))
    asks fine (Some q) is = (
      Asks fine.ontology (in_order row_cmp row_total row_same fine.after.facts) q,
      record { after = fine.after; accepted = fine.accepted; ontology = fine.keeps.makes; rows_are = rows_in_order fine.after.facts; query = is },
    )

    by : SomeOffence nothing_said lines ⊎ NoOffence nothing_said lines → (m : Meaning) × Means lines m
    by (inl f) = (
      Refused (code_of f.why) (length f.front + 1),
      inl (record {
        why = f.why;
        code_is = refl;
        first = record { front = f.front; text = f.text; more = f.more; parts = f.parts; number = refl; before = f.middle; accepted = f.accepted; offends = f.offends };
      }),
    )
    by (inr fine) = asks fine fine.after.query refl

pub has_a_meaning : (bytes : List ℕ) → (m : Meaning) × IsDocument bytes m
has_a_meaning bytes = let found = meaning_of (lines_of bytes) in (found.0, record { lines = lines_of bytes; cut = are_lines bytes; means = found.1 })
