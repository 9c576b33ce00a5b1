-- What an area holds behind one more entry.
use Rattle.std.proofs.Common.{◌≡◌, inl, inr, ⊎_elim, ◌+◌, ℕ, List, [], ◌∷◌, ◌++◌, length, refl, sym, ◌∙◌, ap, subst, arith, length-append}
use Rattle.host_io.specs.Disk.{Disk, IsSettled}
use Rattle.dl_base.specs.Ontology.{Terminology}
use Rattle.dl_base.specs.declared.row.NamedChange.{NamedChange}
use Rattle.txn_codec.specs.Changes.{changes_payload}
use Rattle.txn_codec.specs.OntologyPayload.{ontology_payload}
use Rattle.gated_log.specs.Entries.{Entry, gate_place, within}
use Rattle.gated_log.specs.State.{Appended, BeforeOrAfter, IsClosedAt}
use Rattle.base_store.specs.History.{History, Empty, Over, transaction_count, used, with_ontology, with_transaction}
use Rattle.base_store.specs.Legal.{CanFollow, Continues}
use Rattle.base_store.specs.Area.{HoldsHistory, area_limit}
use Rattle.base_store.specs.Store.{HoldsEither, HoldsEitherMore, HoldsMore, StandsForNext, StoreState}
use Rattle.base_store.proofs.Areas.{held_once}
use Rattle.base_store.proofs.Told.{continues_used, gate_stands_at_used, leads_more}

module _ (end : ℕ) (old : List ℕ) (one : History) (held : HoldsHistory old one) (place : end ≡ used one) where
  pub ready : IsClosedAt (within area_limit) end old
  ready = (held.entries, held.stands, gate_stands_at_used held.entries one held.told ∙ sym place)

  gate_at : (h : History) (a : HoldsHistory old h) → gate_place a.entries ≡ end
  gate_at h a = gate_stands_at_used a.entries h a.told ∙ ap used (held_once old h one a held) ∙ sym place

  pub holds_more : (e : Entry) (new : List ℕ) → Appended (within area_limit) end e old new → HoldsMore e old new
  holds_more e new more h next a c = record {
    entries = a.entries ++ e ∷ [];
    stands = (more a.entries a.stands (gate_at h a)).0;
    told = leads_more Empty a.entries h e next a.told c;
  }

  pub holds_either_more : (e : Entry) (left : List ℕ) → BeforeOrAfter (within area_limit) end e old left → HoldsEitherMore e old left
  holds_either_more e left either h next a c = ⊎_elim
      (λ s. inl (record { entries = a.entries; stands = s; told = a.told }))
      (λ s. inr (record { entries = a.entries ++ e ∷ []; stands = s; told = leads_more Empty a.entries h e next a.told c }))
      (either a.entries a.stands (gate_at h a))

module _ (old : List ℕ) (e : Entry) (next : History → History) (leads : (h : History) → HoldsHistory old h → Continues h e (next h)) where
  pub holds_either : (left : List ℕ) → HoldsEitherMore e old left → HoldsEither next old left
  holds_either left more h a = more h (next h) a (leads h a)

  -- the bytes of the entry more, and so many transactions more
  pub stands_for_next : (more : ℕ) (s t : StoreState) (d f : Disk) → d.first.reads ≡ old → ((h : History) → HoldsHistory old h → transaction_count (next h) ≡ transaction_count h + more)
      → t.used ≡ s.used + 6 + length e.payload → t.transactions ≡ s.transactions + more → IsSettled f → HoldsMore e old f.first.reads → StandsForNext next s d t f
  stands_for_next more s t d f is counts used count settled held h stood =
      let at = stood.at_end in
      let a : HoldsHistory old h = subst (λ (area : List ℕ). HoldsHistory area h) is at.held in
      record {
        at_end = record {
          is_settled = settled;
          held = held h (next h) a (leads h a);
          place = omega (arith, used, at.place, continues_used h e (next h) (leads h a));
        };
        count = omega (arith, count, stood.count, counts h a);
      }

-- ---- a transaction

transaction_leads : (h : History) (changes : List NamedChange) (payload : List ℕ) → changes_payload payload changes → CanFollow h changes → Continues h (record { kind = 2; payload = payload }) (with_transaction changes h)
transaction_leads Empty changes payload is can = absurd can
transaction_leads (Over o before) changes payload is can = (refl, (changes, is, can, refl))

one_transaction_more : (h : History) (changes : List NamedChange) → CanFollow h changes → transaction_count (with_transaction changes h) ≡ transaction_count h + 1
one_transaction_more Empty changes can = absurd can
one_transaction_more (Over o before) changes can = omega (arith, length-append before (changes ∷ []))

module _ (old : List ℕ) (one : History) (held : HoldsHistory old one) (changes : List NamedChange) (can : CanFollow one changes) where
  can_follow : (h : History) → HoldsHistory old h → CanFollow h changes
  can_follow h a = subst (λ (k : History). CanFollow k changes) (held_once old one h held a) can

  pub each_leads : (payload : List ℕ) → changes_payload payload changes → (h : History) → HoldsHistory old h → Continues h (record { kind = 2; payload = payload }) (with_transaction changes h)
  each_leads payload is h a = transaction_leads h changes payload is (can_follow h a)

  pub each_counts : (h : History) → HoldsHistory old h → transaction_count (with_transaction changes h) ≡ transaction_count h + 1
  each_counts h a = one_transaction_more h changes (can_follow h a)

-- ---- an ontology

module _ (old : List ℕ) (held : HoldsHistory old Empty) (o : Terminology) where
  pub ontology_leads : (payload : List ℕ) → ontology_payload payload o → (h : History) → HoldsHistory old h → Continues h (record { kind = 1; payload = payload }) (with_ontology o h)
  ontology_leads payload is h a = subst (λ (k : History). Continues k (record { kind = 1; payload = payload }) (with_ontology o k)) (held_once old Empty h held a) (refl, (o, is, refl))

  pub ontology_counts : (h : History) → HoldsHistory old h → transaction_count (with_ontology o h) ≡ transaction_count h + 0
  ontology_counts h a = subst (λ (k : History). transaction_count (with_ontology o k) ≡ transaction_count k + 0) (held_once old Empty h held a) refl
