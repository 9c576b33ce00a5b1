-- The line that ends a block.
use Rattle.std.proofs.Common.{◌≡◌, ℕ, Bool, List, [], ◌∷◌, ◌++◌, refl, sym, ap, subst, ◌∙◌}
use Rattle.std.specs.Prelude.{◌↔◌, codes, IsTrue, Some}
use Rattle.std.specs.Str.{bytes_eq}
use Rattle.std.proofs.lemmas.Slice.Eq.{bytes_eq-Decides}
use Rattle.std.proofs.lemmas.List.{append-nil}
use Rattle.grammar.specs.Bytes.{is_blank}
use Rattle.script_reader.specs.DocLines.{AreBlank, IsTrimmed}
use Rattle.script_reader.specs.Requests.{EndsBlock, end_line}
use Rattle.script_reader.proofs.BlankRules.{trimmed_once}

ends_from : (text core : List ℕ) → IsTrimmed text core → core ≡ codes "end" → end_line text tt
ends_from text core t e =
    let behind = t.core_is.behind in
    record {
      front = t.front;
      back = t.rest;
      met = t.front;
      parts = t.parts;
      in_first = (t.blank, refl);
      in_second = record {
        front = codes "end";
        back = behind;
        met = tt;
        parts = t.core_is.parts ∙ ap (λ (l : List ℕ). l ++ behind) e;
        in_first = refl;
        in_second = record { front = behind; back = []; met = behind; parts = sym (append-nil behind); in_first = (t.core_is.blank, refl); in_second = (refl, refl) };
      };
    }

none_last : (f : List ℕ) (c : ℕ) → [] ≡ f ++ c ∷ [] → c ≡ 100
none_last [] c e = absurd cc
none_last (x ∷ f) c e = absurd cc

last_is : (f : List ℕ) (c : ℕ) → codes "end" ≡ f ++ c ∷ [] → c ≡ 100
last_is [] c e = absurd cc
last_is (x ∷ []) c e = absurd cc
last_is (x ∷ y ∷ []) c e = cc
last_is (x ∷ y ∷ z ∷ f) c e = none_last f c cc

trimmed_from : (text : List ℕ) → end_line text tt → IsTrimmed text (codes "end")
trimmed_from text s =
    let u = s.in_second in
    let w = u.in_second in
    let all : w.front ≡ u.back = sym (w.parts ∙ ap (λ (l : List ℕ). w.front ++ l) w.in_second.0 ∙ append-nil w.front) in
    record {
      front = s.front;
      rest = s.back;
      parts = s.parts;
      blank = s.in_first.0;
      first = λ c more e. (let same : 101 ≡ c = cc in ap is_blank (sym same));
      core_is = record {
        behind = u.back;
        parts = u.parts ∙ ap (λ (l : List ℕ). l ++ u.back) u.in_first;
        blank = subst AreBlank all w.in_first.0;
        last = λ f c e. ap is_blank (last_is f c e);
      };
    }

pub ends_where : (text core : List ℕ) (result : Bool) → IsTrimmed text core → result ≡ bytes_eq core (codes "end") → IsTrue result ↔ EndsBlock (Some text)
ends_where text core result t is = (
  λ yes. ends_from text core t ((bytes_eq-Decides core (codes "end")).0 (sym is ∙ yes)),
  λ ends. is ∙ (bytes_eq-Decides core (codes "end")).1 (trimmed_once text core (codes "end") t (trimmed_from text ends)),
)
