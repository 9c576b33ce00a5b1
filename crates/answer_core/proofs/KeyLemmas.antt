-- The certain keys are the keys of the matches that lift.
use Rattle.std.proofs.Common.{◌≡◌, ℕ, List, [], ◌∷◌, map, Contains, All, refl, sym, ◌∙◌, ap, subst}
use Rattle.std.specs.List.{AllZip}
use Rattle.std.proofs.lemmas.List.Elements.{All-cons, All-nil, All-head, All-tail}
use Rattle.std.proofs.lemmas.Option.{same_Some}
use Rattle.dl_base.specs.Ontology.{Terminology}
use Rattle.dl_base.specs.Query.{Question, IsQuery, terms}
use Rattle.dl_base.specs.Rows.{IsIndividual}
use Rattle.dl_base.specs.Unfolding.{Element, Named, Next}
use Rattle.dl_base.specs.Tables.{TableRow}
use Rattle.dl_base.specs.Completion.{AreCompleted, Represents}
use Rattle.dl_base.specs.ShortUnfolding.{IsShort, node_of}
use Rattle.dl_base.specs.Lifting.{Lifts}
use Rattle.dl_base.specs.ShortAnswers.{IsShortlyCertain}
use Rattle.dl_base.specs.declared.concept.Role.{Role}
use Rattle.dl_base.specs.declared.element.Elem.{Elem}
use Rattle.dl_base.specs.declared.element.Elem.TheVariants as elem
use Rattle.dl_base.specs.declared.row.NamedRow.{NamedRow}
use Rattle.dl_base.specs.declared.query.Term.{Term}
use Rattle.dl_base.specs.declared.query.Term.TheVariants as term
use Rattle.dl_base.proofs.NumberLemmas.{at_its_place}
use Rattle.dl_base.proofs.CollapseLemmas.{on_short, from_short}
use Rattle.dl_base.proofs.FoldLemmas.{elem_of, has_fold, lifted_match, match_in_table}
use Rattle.answer_core.specs.Keys.{IsNumbered, IsKeyOf}
use Rattle.answer_core.specs.AnswerLaws.{KeysAreCertain}

module _ (o : Terminology) (rows : List NamedRow) (names : List (List ℕ)) (generation : Role → ℕ) (table : List TableRow) (completed : AreCompleted o rows names generation table)
    (q : Question) (key : List (List ℕ)) where
  -- from a certain key
  module _ (all : All (IsIndividual rows) key) (c : IsShortlyCertain o rows q key) where
    abbrev image : Term → Elem
    image t = elem_of o rows names generation (node_of (c.place t))

    image_named : (t : Term) (a : List ℕ) → IsIndividual rows a → c.place t ≡ Named a → IsNumbered names (image t) a
    image_named t a there is =
        subst (λ (e : Element). IsNumbered names (elem_of o rows names generation (node_of e)) a) (sym is) (at_its_place names a (completed.numbered a there))

    images : (vs : List (List ℕ)) (key : List (List ℕ)) → map (λ v. c.place (term.Var v)) vs ≡ map Named key → All (IsIndividual rows) key
        → AllZip (λ v a. IsNumbered names (image (term.Var v)) a) vs key
    images [] [] is each = tt
    images [] (a ∷ key) is each = absurd cc
    images (v ∷ vs) [] is each = absurd cc
    images (v ∷ vs) (a ∷ key) is each =
        let first : c.place (term.Var v) ≡ Named a = cc in
        let rest : map (λ v. c.place (term.Var v)) vs ≡ map Named key = cc in
        (image_named (term.Var v) a (All-head (IsIndividual rows) a key each) first, images vs key rest (All-tail (IsIndividual rows) a key each))

    lifted : Lifts o rows names generation q image
    lifted = record { place = c.place; placed = c.placed; folds = has_fold o rows names generation q c.place c.placed completed.numbered }

    key_of_certain : IsKeyOf o rows names generation table q key
    key_of_certain = record {
      place = image;
      match_is = match_in_table o rows names generation q image table completed (lifted_match o rows names generation q image lifted);
      lifts = lifted;
      answers = images q.answers key c.answers all;
      names_are = λ a there.
          let is : c.place (term.Named a) ≡ Named a = c.names a there in
          image_named (term.Named a) a (subst (IsShort o rows) is (c.placed.short (term.Named a) there)) is;
    }

  -- from a match that lifts
  module _ (query : IsQuery q) (k : IsKeyOf o rows names generation table q key) where
    named_fold : (e : Elem) (x : Element) (a : List ℕ) → Represents names generation e (node_of x) → IsNumbered names e a → x ≡ Named a
    named_fold (elem.Named n) (Named b) a is number = ap Named (same_Some b a (sym is ∙ number))
    named_fold (elem.Named n) (Next x r) a is number = absurd is
    named_fold (elem.Shared w) x a is number = absurd number

    stands_named : (t : Term) (a : List ℕ) → Contains (terms q) t → IsNumbered names (k.place t) a → k.lifts.place t ≡ Named a
    stands_named t a there number = named_fold (k.place t) (k.lifts.place t) a (k.lifts.folds t there) number

    stand : (vs key : List (List ℕ)) → All (λ v. Contains (terms q) (term.Var v)) vs → AllZip (λ v a. IsNumbered names (k.place (term.Var v)) a) vs key
        → (map (λ v. k.lifts.place (term.Var v)) vs ≡ map Named key) × All (IsIndividual rows) key
    stand [] [] safe zip = (refl, All-nil (IsIndividual rows))
    stand [] (a ∷ key) safe zip = absurd zip
    stand (v ∷ vs) [] safe zip = absurd zip
    stand (v ∷ vs) (a ∷ key) safe zip =
        let there : Contains (terms q) (term.Var v) = All-head (λ v. Contains (terms q) (term.Var v)) v vs safe in
        let first : k.lifts.place (term.Var v) ≡ Named a = stands_named (term.Var v) a there zip.0 in
        let rest = stand vs key (All-tail (λ v. Contains (terms q) (term.Var v)) v vs safe) zip.1 in
        let others : map (λ v. k.lifts.place (term.Var v)) vs ≡ map Named key = rest.0 in
        (λ j. first j ∷ others j, All-cons (IsIndividual rows) a key (subst (IsShort o rows) first (k.lifts.placed.short (term.Var v) there)) rest.1)

    certain_of_key : All (IsIndividual rows) key × IsShortlyCertain o rows q key
    certain_of_key =
        let both = stand q.answers key query.safe k.answers in (
          both.1,
          record {
            place = k.lifts.place;
            placed = k.lifts.placed;
            answers = both.0;
            names = λ a there. stands_named (term.Named a) a there (k.names_are a there);
          },
        )

pub keys_are_certain : KeysAreCertain
keys_are_certain o rows names generation table q key query completed = (
  λ both. key_of_certain o rows names generation table completed q key both.0 (on_short o rows q key both.1),
  λ k. let both = certain_of_key o rows names generation table completed q key query k in (both.0, from_short o rows q key both.1),
)
