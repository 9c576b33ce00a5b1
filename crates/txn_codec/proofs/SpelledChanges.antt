-- What is written is a payload.
use Rattle.std.proofs.Common.{ℕ, ◌<◌, ◌≤◌, ◌^◌, Bool, true, false, List, [], ◌∷◌, ◌++◌, length, refl, sym, ap, ◌∙◌, arith, inl, inr, All, flat_map}
use Rattle.std.specs.List.{AllByRecursion}
use Rattle.std.proofs.lemmas.List.{append-nil}
use Rattle.std.proofs.lemmas.List.Elements.{recursion_from_All}
use Rattle.byteorder.specs.Endian.{big_bytes, big_number}
use Rattle.byteorder.specs.Numbers.{length-bytes_high_first, big_number-reads_back}
use Rattle.grammar.specs.Grammar.{many}
use Rattle.dl_base.specs.declared.row.NamedRow.{NamedRow}
use Rattle.dl_base.specs.declared.row.NamedRow.TheVariants as rows
use Rattle.dl_base.specs.declared.row.NamedChange.{NamedChange}
use Rattle.txn_codec.specs.Pieces.{number}
use Rattle.txn_codec.specs.Changes.{sign, row, change, changes_payload}
use Rattle.txn_codec.specs.Spelling.{name_bytes, sign_byte, row_bytes, change_bytes, changes_bytes, HasNames}

pub spelled_number : (n x : ℕ) → x < 256 ^ n → number n (big_bytes n x) x
spelled_number n x lt = (length-bytes_high_first n x, sym (ap (λ (a : List ℕ). big_number n a) (sym (append-nil (big_bytes n x))) ∙ big_number-reads_back n x [] lt))

spelled_sign : (b : Bool) → sign (sign_byte b ∷ []) b
spelled_sign true = inl record { front = 1 ∷ []; back = []; met = tt; parts = refl; in_first = refl; in_second = (refl, refl) }
spelled_sign false = inr record { front = 0 ∷ []; back = []; met = tt; parts = refl; in_first = refl; in_second = (refl, refl) }

spelled_row : (r : NamedRow) → HasNames r → row (row_bytes r) r
spelled_row (rows.Concept c a) h = inl record {
  front = 2 ∷ [];
  back = name_bytes c ++ name_bytes a;
  met = tt;
  parts = refl;
  in_first = refl;
  in_second = record {
    front = name_bytes c;
    back = name_bytes a;
    met = c;
    parts = refl;
    in_first = (refl, h.0);
    in_second = record { front = name_bytes a; back = []; met = a; parts = sym (append-nil (name_bytes a)); in_first = (refl, h.1); in_second = (refl, refl) };
  };
}
spelled_row (rows.Role p a b) h = inr record {
  front = 3 ∷ [];
  back = name_bytes p ++ (name_bytes a ++ name_bytes b);
  met = tt;
  parts = refl;
  in_first = refl;
  in_second = record {
    front = name_bytes p;
    back = name_bytes a ++ name_bytes b;
    met = p;
    parts = refl;
    in_first = (refl, h.0);
    in_second = record {
      front = name_bytes a;
      back = name_bytes b;
      met = a;
      parts = refl;
      in_first = (refl, h.1);
      in_second = record { front = name_bytes b; back = []; met = b; parts = sym (append-nil (name_bytes b)); in_first = (refl, h.2); in_second = (refl, refl) };
    };
  };
}

spelled_change : (c : NamedChange) → HasNames c.row → change (change_bytes c) c
spelled_change c h = record {
  front = sign_byte c.add ∷ [];
  back = row_bytes c.row;
  met = c.add;
  parts = refl;
  in_first = spelled_sign c.add;
  in_second = record { front = row_bytes c.row; back = []; met = c.row; parts = sym (append-nil (row_bytes c.row)); in_first = spelled_row c.row h; in_second = (refl, refl) };
}

spelled_many : (changes : List NamedChange) → AllByRecursion (λ c. HasNames c.row) changes → many change (flat_map change_bytes changes) changes
spelled_many [] h = refl
spelled_many (c ∷ cs) h = (change_bytes c, flat_map change_bytes cs, refl, spelled_change c h.0, spelled_many cs h.1)

pub spelled_changes : (changes : List NamedChange) → length changes ≤ 4294967295 → All (λ c. HasNames c.row) changes → changes_payload (changes_bytes changes) changes
spelled_changes changes few names = record {
  front = big_bytes 4 (length changes);
  back = flat_map change_bytes changes;
  met = length changes;
  parts = refl;
  in_first = spelled_number 4 (length changes) (omega (arith, few));
  in_second = (spelled_many changes (recursion_from_All (λ c. HasNames c.row) changes names), omega arith, omega arith);
}
