-- What is written of an ontology is its payload.
use Rattle.std.proofs.Common.{◌≡◌, ℕ, zero, suc, ◌+◌, ◌*◌, ◌<◌, ◌≤◌, Bool, true, false, List, [], ◌∷◌, ◌++◌, length, refl, sym, arith, All, flat_map, length-append, Some, slice_get, get_or}
use Rattle.std.specs.List.{AllByRecursion}
use Rattle.std.proofs.lemmas.List.{append-nil}
use Rattle.std.proofs.lemmas.List.Elements.{recursion_from_All}
use Rattle.byteorder.specs.Endian.{big_bytes}
use Rattle.grammar.specs.Grammar.{many}
use Rattle.dl_base.specs.Names.{IsName}
use Rattle.dl_base.specs.Ontology.{Terminology, IsTerminology, IsPlaced, IsPlacedHead, IsWithin}
use Rattle.dl_base.specs.declared.concept.Basic.{Basic}
use Rattle.dl_base.specs.declared.concept.Basic.TheVariants as basic
use Rattle.dl_base.specs.declared.concept.Head.{Head}
use Rattle.dl_base.specs.declared.concept.Head.TheVariants as heads
use Rattle.dl_base.specs.declared.concept.Inclusion.{Inclusion}
use Rattle.dl_base.proofs.OntologyLemmas.{within_limits}
use Rattle.txn_codec.specs.Pieces.{spelled_name}
use Rattle.txn_codec.specs.OntologyPayload.{count_to, names, tagged, member, tagged_head, some_head, inclusion, inclusions, ontology_payload}
use Rattle.txn_codec.specs.Spelling.{name_bytes, names_bytes, role_tag, basic_bytes, inclusion_head_bytes, inclusion_bytes, inclusions_bytes, ontology_bytes}
use Rattle.txn_codec.proofs.SpelledChanges.{spelled_number}

spelled_count : (most n : ℕ) → n < 65536 → n ≤ most → count_to most (big_bytes 2 n) n
spelled_count most n lt le = (spelled_number 2 n lt, le)

spelled_many_names : (ns : List (List ℕ)) → AllByRecursion IsName ns → many spelled_name (flat_map name_bytes ns) ns
spelled_many_names [] h = refl
spelled_many_names (n ∷ ns) h = (name_bytes n, flat_map name_bytes ns, refl, (refl, h.0), spelled_many_names ns h.1)

spelled_names : (most : ℕ) (ns : List (List ℕ)) → most < 65536 → length ns ≤ most → All IsName ns → (names most).loose (names_bytes ns) ns
spelled_names most ns small few all = record {
  front = big_bytes 2 (length ns);
  back = flat_map name_bytes ns;
  met = length ns;
  parts = refl;
  in_first = spelled_count most (length ns) (omega (arith, small, few)) few;
  in_second = (spelled_many_names ns (recursion_from_All IsName ns all), omega arith, omega arith);
}

spelled_exists : (concepts roles n : ℕ) (inverse : Bool) → n < 65536 → (member concepts roles).loose (role_tag inverse ∷ big_bytes 2 n) (basic.Exists (record { name = n; inverse = inverse }))
spelled_exists concepts roles n false lt = record {
  front = 2 ∷ [];
  back = big_bytes 2 n;
  met = 2;
  parts = refl;
  in_first = (refl, omega arith, omega arith);
  in_second = record { front = big_bytes 2 n; back = []; met = n; parts = refl; in_first = spelled_number 2 n lt; in_second = (refl, refl) };
}
spelled_exists concepts roles n true lt = record {
  front = 3 ∷ [];
  back = big_bytes 2 n;
  met = 3;
  parts = refl;
  in_first = (refl, omega arith, omega arith);
  in_second = record { front = big_bytes 2 n; back = []; met = n; parts = refl; in_first = spelled_number 2 n lt; in_second = (refl, refl) };
}

spelled_member : (concepts roles : ℕ) (b : Basic) → IsPlaced 512 256 b → (member concepts roles).loose (basic_bytes b) b
spelled_member concepts roles (basic.Concept c) lt = record {
  front = 1 ∷ [];
  back = big_bytes 2 c;
  met = 1;
  parts = refl;
  in_first = (refl, omega arith, omega arith);
  in_second = record { front = big_bytes 2 c; back = []; met = c; parts = refl; in_first = spelled_number 2 c (omega (arith, lt)); in_second = (refl, refl) };
}
spelled_member concepts roles (basic.Exists r) lt = spelled_exists concepts roles r.name r.inverse (omega (arith, lt))

head_behind : (concepts roles tag : ℕ) (t : List ℕ) (b : Basic) → 1 ≤ tag → (tagged concepts roles tag).loose t b → (tagged_head concepts roles tag).loose t (heads.Basic b)
head_behind concepts roles zero t b pos s = absurd (omega arith)
head_behind concepts roles (suc m) t b pos s = record { front = t; back = []; met = b; parts = sym (append-nil t); in_first = s; in_second = (refl, refl) }

spelled_basic_head : (concepts roles : ℕ) (t : List ℕ) (b : Basic) → (member concepts roles).loose t b → (some_head concepts roles).loose t (heads.Basic b)
spelled_basic_head concepts roles t b s = record {
  front = s.front;
  back = s.back;
  met = s.met;
  parts = s.parts;
  in_first = (s.in_first.0, omega arith, s.in_first.2);
  in_second = head_behind concepts roles s.met s.back b s.in_first.1 s.in_second;
}

spelled_head : (concepts roles : ℕ) (h : Head) → IsPlacedHead 512 256 h → (some_head concepts roles).loose (inclusion_head_bytes h) h
spelled_head concepts roles (heads.Basic b) is = spelled_basic_head concepts roles (basic_bytes b) b (spelled_member concepts roles b is)
spelled_head concepts roles heads.Nothing is = record {
  front = 0 ∷ [];
  back = 0 ∷ 0 ∷ [];
  met = 0;
  parts = refl;
  in_first = (refl, omega arith, omega arith);
  in_second = record { front = 0 ∷ 0 ∷ []; back = []; met = tt; parts = refl; in_first = refl; in_second = (refl, refl) };
}

spelled_body : (concepts roles : ℕ) (body : List Basic) → AllByRecursion (IsPlaced 512 256) body → many (member concepts roles).loose (flat_map basic_bytes body) body
spelled_body concepts roles [] h = refl
spelled_body concepts roles (b ∷ bs) h = (basic_bytes b, flat_map basic_bytes bs, refl, spelled_member concepts roles b h.0, spelled_body concepts roles bs h.1)

spelled_inclusion : (concepts roles : ℕ) (i : Inclusion) → IsWithin 512 256 i → (inclusion concepts roles).loose (inclusion_bytes i) i
spelled_inclusion concepts roles i w = record {
  front = length i.body ∷ [];
  back = flat_map basic_bytes i.body ++ inclusion_head_bytes i.head;
  met = length i.body;
  parts = refl;
  in_first = (refl, w.least, w.most);
  in_second = record {
    front = flat_map basic_bytes i.body;
    back = inclusion_head_bytes i.head;
    met = i.body;
    parts = refl;
    in_first = (spelled_body concepts roles i.body (recursion_from_All (IsPlaced 512 256) i.body w.body), omega arith, omega arith);
    in_second = record { front = inclusion_head_bytes i.head; back = []; met = i.head; parts = sym (append-nil (inclusion_head_bytes i.head)); in_first = spelled_head concepts roles i.head w.head; in_second = (refl, refl) };
  };
}

spelled_many_inclusions : (concepts roles : ℕ) (is : List Inclusion) → AllByRecursion (IsWithin 512 256) is → many (inclusion concepts roles).loose (flat_map inclusion_bytes is) is
spelled_many_inclusions concepts roles [] h = refl
spelled_many_inclusions concepts roles (i ∷ is) h = (inclusion_bytes i, flat_map inclusion_bytes is, refl, spelled_inclusion concepts roles i h.0, spelled_many_inclusions concepts roles is h.1)

spelled_inclusions : (concepts roles : ℕ) (is : List Inclusion) → length is ≤ 4096 → All (IsWithin 512 256) is → (inclusions concepts roles).loose (inclusions_bytes is) is
spelled_inclusions concepts roles is few all = record {
  front = big_bytes 2 (length is);
  back = flat_map inclusion_bytes is;
  met = length is;
  parts = refl;
  in_first = spelled_count 4096 (length is) (omega (arith, few)) few;
  in_second = (spelled_many_inclusions concepts roles is (recursion_from_All (IsWithin 512 256) is all), omega arith, omega arith);
}

-- places of an ontology are below the limits
pub spelled_ontology : (o : Terminology) → IsTerminology o → All IsName o.concepts → All IsName o.roles → ontology_payload (ontology_bytes o) o
spelled_ontology o is cs rs = (
  record {
    front = names_bytes o.concepts;
    back = names_bytes o.roles ++ inclusions_bytes o.inclusions;
    met = o.concepts;
    parts = refl;
    in_first = spelled_names 512 o.concepts (omega arith) is.concepts cs;
    in_second = record {
      front = names_bytes o.roles;
      back = inclusions_bytes o.inclusions;
      met = o.roles;
      parts = refl;
      in_first = spelled_names 256 o.roles (omega arith) is.roles rs;
      in_second = record {
        front = inclusions_bytes o.inclusions;
        back = [];
        met = o.inclusions;
        parts = sym (append-nil (inclusions_bytes o.inclusions));
        in_first = spelled_inclusions (length o.concepts) (length o.roles) o.inclusions is.inclusions (within_limits o is);
        in_second = (refl, refl);
      };
    };
  },
  is,
)

-- ---- lengths

basic_len : (b : Basic) → length (basic_bytes b) ≡ 3
basic_len (basic.Concept c) = refl
basic_len (basic.Exists r) = refl

pub body_len : (body : List Basic) → length (flat_map basic_bytes body) ≡ 3 * length body
body_len [] = refl
body_len (b ∷ bs) = omega (arith, length-append (basic_bytes b) (flat_map basic_bytes bs), basic_len b, body_len bs)

pub head_len : (h : Head) → length (inclusion_head_bytes h) ≡ 3
head_len (heads.Basic b) = basic_len b
head_len heads.Nothing = refl

pub inclusion_len_is : (i : Inclusion) → length (inclusion_bytes i) ≡ 4 + 3 * length i.body
inclusion_len_is i = omega (arith, length-append (flat_map basic_bytes i.body) (inclusion_head_bytes i.head), body_len i.body, head_len i.head)

pub item_of : (names : List (List ℕ)) (k : ℕ) (name : List ℕ) → slice_get names k ≡ Some name → name ≡ get_or names k name
item_of [] k name e = absurd (cc)
item_of (x ∷ xs) zero name e = let same : x ≡ name = cc in sym same
item_of (x ∷ xs) (suc k) name e = item_of xs k name e
