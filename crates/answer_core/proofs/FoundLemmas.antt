-- The keys of a query are those that the matches of its shape spell.
use Rattle.std.proofs.Common.{◌≡◌, ◌≢◌, ◌↔◌, ℕ, List, [], ◌∷◌, map, length, AllPairs, Contains, Option, Some, None, slice_get, Result, Ok, Err, IfOk, refl, sym, ◌∙◌, ap, subst, arith}
use Rattle.std.specs.List.{AllZip}
use Rattle.std.proofs.lemmas.Option.{slice_get_within}
use Rattle.dl_base.specs.Ontology.{Terminology, IsTerminology}
use Rattle.dl_base.specs.Query.{Question, IsQuery, terms}
use Rattle.dl_base.specs.Answers.{key_cmp, AreAnswers}
use Rattle.dl_base.specs.Completion.{AreCompleted}
use Rattle.dl_base.specs.Tables.{TableRow}
use Rattle.dl_base.specs.declared.concept.Role.{Role}
use Rattle.dl_base.specs.declared.element.Elem.{Elem}
use Rattle.dl_base.specs.declared.element.Elem.TheVariants as elem
use Rattle.dl_base.specs.declared.row.NamedRow.{NamedRow}
use Rattle.dl_base.specs.declared.query.Term.{Term}
use Rattle.dl_base.specs.declared.query.Term.TheVariants as term
use Rattle.dl_base.proofs.PlaceLemmas.{one_place, some_same, member_at}
use Rattle.dl_base.proofs.RowLemmas.{none_rising}
use Rattle.query_shape.specs.Lifting.{LiftsShape}
use Rattle.query_shape.specs.Shape.{IsShapeMatch}
use Rattle.query_shape.proofs.LiftLemmas.{same_lifting}
use Rattle.query_shape.proofs.MatchLemmas.{same_matches, each_placing, image_at}
use Rattle.query_shape.proofs.NumberingLemmas.{firsts_distinct, firsts_from, firsts_into}
use Rattle.join_ops.specs.Joins.{IsFixed}
use Rattle.answer_core.specs.Keys.{IsNumbered, IsKeyOf}
use Rattle.answer_core.specs.Binding.{BoundQuery, IsBoundTo, IsFixedTerm}
use Rattle.answer_core.specs.Found.{HaveIndividuals, IsFoundKey, SpellsKey, AreSpelled}
use Rattle.answer_core.proofs.KeyLemmas.{keys_are_certain}
use Rattle.answer_core.proofs.ListLemmas.{at_place, zip_at, zip_back}

-- an individual of the list has a number
record Numbered (names : List (List ℕ)) (e : Elem) (a : List ℕ) : Type 0 where
  number : ℕ
  is : e ≡ elem.Named number
  at : slice_get names number ≡ Some a

numbered : (names : List (List ℕ)) (e : Elem) (a : List ℕ) → IsNumbered names e a → Numbered names e a
numbered names (elem.Named n) a h = record { number = n; is = refl; at = h }
numbered names (elem.Shared w) a h = absurd h

-- the number of a fixed name is the name's
fixed_name : (names : List (List ℕ)) (t : Term) (n : ℕ) → IsFixedTerm names t (Some n) → (a : List ℕ) × (t ≡ term.Named a) × (slice_get names n ≡ Some a)
fixed_name names (term.Var v) n h = absurd cc
fixed_name names (term.Named a) n h = (a, refl, h)

name_fixed : (names : List (List ℕ)) (a : List ℕ) (fixed : Option ℕ) → Contains names a → IsFixedTerm names (term.Named a) fixed → (n : ℕ) × (fixed ≡ Some n) × (slice_get names n ≡ Some a)
name_fixed names a None known h = absurd (h known)
name_fixed names a (Some n) known h = (n, refl, h)

module _ (o : Terminology) (rows : List NamedRow) (names : List (List ℕ)) (generation : Role → ℕ) (table : List TableRow) (q : Question) (b : BoundQuery) (fixed : List (Option ℕ))
    (terminology : IsTerminology o) (bound : IsBoundTo o q b) (distinct : AllPairs (λ x y. x ≢ y) names)
    (fixed_are : AllZip (IsFixedTerm names) b.shape.terms fixed) (known : (a : List ℕ) → Contains b.shape.terms (term.Named a) → Contains names a) where
  -- from a key
  module _ (key : List (List ℕ)) (k : IsKeyOf o rows names generation table q key) where
    abbrev images : List Elem
    images = map k.place b.shape.terms

    match_of_key : IsShapeMatch table b.shape images
    match_of_key = (same_matches o table q b.shape k.place terminology.distinct_concepts terminology.distinct_roles bound.shape).0 k.match_is

    fixed_of_key : IsFixed fixed images
    fixed_of_key i n at =
        let found = zip_back (IsFixedTerm names) b.shape.terms fixed i (Some n) fixed_are at in
        let name = fixed_name names found.0 n found.2 in
        let there : Contains (terms q) (term.Named name.0) = firsts_from bound.shape.terms_are (term.Named name.0) (member_at b.shape.terms i (term.Named name.0) (found.1 ∙ ap Some name.1)) in
        let number = numbered names (k.place (term.Named name.0)) name.0 (k.names_are name.0 there) in
        let one : number.number ≡ n = one_place names number.number n name.0 distinct number.at name.2 in
        image_at k.place b.shape.terms i found.0 found.1 ∙ ap Some (ap k.place name.1 ∙ (number.is ∙ ap elem.Named one))

    numbers_of_key : (vs : List (List ℕ)) (places : List ℕ) (key_names : List (List ℕ)) → AllZip (λ v n. slice_get b.shape.terms n ≡ Some (term.Var v)) vs places
        → AllZip (λ v a. IsNumbered names (k.place (term.Var v)) a) vs key_names → (numbers : List ℕ) × HaveIndividuals images places (length names) numbers × SpellsKey names numbers key_names
    numbers_of_key [] [] [] p s = ([], tt, tt)
    numbers_of_key [] (n ∷ ns) rest p s = absurd p
    numbers_of_key [] [] (a ∷ rest) p s = absurd s
    numbers_of_key (v ∷ vs) [] rest p s = absurd p
    numbers_of_key (v ∷ vs) (n ∷ ns) [] p s = absurd s
    numbers_of_key (v ∷ vs) (n ∷ ns) (a ∷ rest) p s =
        let number = numbered names (k.place (term.Var v)) a s.0 in
        let others = numbers_of_key vs ns rest p.1 s.1 in
        (number.number ∷ others.0, ((image_at k.place b.shape.terms n (term.Var v) p.0 ∙ ap Some number.is, slice_get_within names number.number a number.at), others.1), (number.at, others.2))

    found_of_key : (numbers : List ℕ) × IsFoundKey o rows names generation table b fixed (length names) numbers × SpellsKey names numbers key
    found_of_key =
        let numbers = numbers_of_key q.answers b.answers key bound.answers k.answers in
        let lifts = (same_lifting o rows names generation q b.shape k.place terminology.distinct_concepts terminology.distinct_roles bound.shape).0 k.lifts in
        (numbers.0, record { images = images; match_is = match_of_key; lifts = lifts; fixed_are = fixed_of_key; reads = numbers.1 }, numbers.2)

  -- from a match
  module _ (numbers : List ℕ) (found : IsFoundKey o rows names generation table b fixed (length names) numbers) (key : List (List ℕ)) (spells : SpellsKey names numbers key) where
    placing : (place : Term → Elem) × (map place b.shape.terms ≡ found.images)
    placing = each_placing b.shape.terms found.images (firsts_distinct bound.shape.terms_are) found.match_is.count

    stands_at : (n : ℕ) (t : Term) (e : Elem) → slice_get b.shape.terms n ≡ Some t → slice_get found.images n ≡ Some e → placing.0 t ≡ e
    stands_at n t e at image = some_same (sym (image_at placing.0 b.shape.terms n t at) ∙ (ap (λ (es : List Elem). slice_get es n) placing.1 ∙ image))

    is_numbered : (e : Elem) (n : ℕ) (a : List ℕ) → e ≡ elem.Named n → slice_get names n ≡ Some a → IsNumbered names e a
    is_numbered e n a is at = subst (λ (f : Elem). IsNumbered names f a) (sym is) at

    answers_of : (vs : List (List ℕ)) (places ns : List ℕ) (key_names : List (List ℕ)) → AllZip (λ v n. slice_get b.shape.terms n ≡ Some (term.Var v)) vs places
        → HaveIndividuals found.images places (length names) ns → SpellsKey names ns key_names → AllZip (λ v a. IsNumbered names (placing.0 (term.Var v)) a) vs key_names
    answers_of [] [] [] [] p r s = tt
    answers_of [] [] [] (a ∷ rest) p r s = absurd s
    answers_of [] [] (m ∷ ms) rest p r s = absurd r
    answers_of [] (n ∷ ns) ms rest p r s = absurd p
    answers_of (v ∷ vs) [] ms rest p r s = absurd p
    answers_of (v ∷ vs) (n ∷ ns) [] rest p r s = absurd r
    answers_of (v ∷ vs) (n ∷ ns) (m ∷ ms) [] p r s = absurd s
    answers_of (v ∷ vs) (n ∷ ns) (m ∷ ms) (a ∷ rest) p r s =
        (is_numbered (placing.0 (term.Var v)) m a (stands_at n (term.Var v) (elem.Named m) p.0 r.0.0) s.0, answers_of vs ns ms rest p.1 r.1 s.1)

    names_of : (a : List ℕ) → Contains (terms q) (term.Named a) → IsNumbered names (placing.0 (term.Named a)) a
    names_of a there =
        let among : Contains b.shape.terms (term.Named a) = firsts_into bound.shape.terms_are (term.Named a) there in
        let at = at_place b.shape.terms (term.Named a) among in
        let entry = zip_at (IsFixedTerm names) b.shape.terms fixed at.0 (term.Named a) fixed_are at.2 in
        let number = name_fixed names a entry.0 (known a among) entry.2 in
        is_numbered (placing.0 (term.Named a)) number.0 a
        (stands_at at.0 (term.Named a) (elem.Named number.0) at.2 (found.fixed_are at.0 number.0 (entry.1 ∙ ap Some number.1))) number.2

    key_of_found : IsKeyOf o rows names generation table q key
    key_of_found = record {
      place = placing.0;
      match_is = (same_matches o table q b.shape placing.0 terminology.distinct_concepts terminology.distinct_roles bound.shape).1
          (subst (IsShapeMatch table b.shape) (sym placing.1) found.match_is);
      lifts = (same_lifting o rows names generation q b.shape placing.0 terminology.distinct_concepts terminology.distinct_roles bound.shape).1
          (subst (LiftsShape o rows names generation b.shape) (sym placing.1) found.lifts);
      answers = answers_of q.answers b.answers numbers key bound.answers found.reads spells;
      names_are = names_of;
    }

  module _ (query : IsQuery q) (completed : AreCompleted o rows names generation table) where
    -- the spelled keys are the answers
    pub are_answers : (found : List (List ℕ)) (keys : List (List (List ℕ))) → ((numbers : List ℕ) → Contains found numbers ↔ IsFoundKey o rows names generation table b fixed (length names) numbers)
        → AreSpelled names found keys → AreAnswers o rows q keys
    are_answers found keys each spelled = record {
      rising = spelled.rising;
      members = λ key. (
        λ c. (
            let s = (spelled.members key).0 c in
            (keys_are_certain o rows names generation table q key query completed).1 (key_of_found s.0 ((each s.0).0 s.1) key s.2)
            ),
        λ certain. (
            let f = found_of_key key ((keys_are_certain o rows names generation table q key query completed).0 certain) in
            (spelled.members key).1 (f.0, (each f.0).1 f.1, f.2)
            ),
      );
    }

    pub answers_result : {E : Type 0} (found : List (List ℕ)) (r : Result (List (List (List ℕ))) E)
        → ((numbers : List ℕ) → Contains found numbers ↔ IsFoundKey o rows names generation table b fixed (length names) numbers)
        → IfOk r (AreSpelled names found) → IfOk r (AreAnswers o rows q)
    answers_result found (Ok keys) each spelled = are_answers found keys each spelled
    answers_result found (Err e) each spelled = tt

-- where a name isn't in the list there is no answer
pub no_answers : (o : Terminology) (rows : List NamedRow) (names : List (List ℕ)) (generation : Role → ℕ) (table : List TableRow) (q : Question) (b : BoundQuery) → IsBoundTo o q b → IsQuery q
    → AreCompleted o rows names generation table → (((a : List ℕ) → Contains b.shape.terms (term.Named a) → Contains names a) → ⊥) → AreAnswers o rows q []
no_answers o rows names generation table q b bound query completed unknown = record {
  rising = none_rising key_cmp;
  members = λ key. (λ c. absurd (omega arith), λ certain. absurd (unlifted key ((keys_are_certain o rows names generation table q key query completed).0 certain)));
}
  where
    by : (a : List ℕ) {e : Elem} → Numbered names e a → Contains names a
    by a n = member_at names n.number a n.at

    unlifted : (key : List (List ℕ)) → IsKeyOf o rows names generation table q key → ⊥
    unlifted key k = unknown (λ a there. by a (numbered names (k.place (term.Named a)) a (k.names_are a (firsts_from bound.shape.terms_are (term.Named a) there))))
