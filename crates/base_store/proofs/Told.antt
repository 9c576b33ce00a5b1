-- The entries of a history: what they tell is one history, and how many bytes they take.
use Rattle.std.proofs.Common.{◌≡◌, ◌+◌, ℕ, List, [], ◌∷◌, ◌++◌, length, refl, sym, ◌∙◌, ap, subst, arith, length-append}
use Rattle.std.specs.Prelude.{sum_by}
use Rattle.std.proofs.lemmas.List.{map-append}
use Rattle.std.proofs.lemmas.List.Sums.{sum_by-append}
use Rattle.dl_base.specs.Ontology.{Terminology}
use Rattle.dl_base.specs.declared.row.NamedChange.{NamedChange}
use Rattle.txn_codec.specs.Spelling.{changes_bytes, ontology_bytes}
use Rattle.txn_codec.proofs.Lengths.{changes_have_their_length, ontology_has_its_length}
use Rattle.txn_codec.proofs.MeanOnce.{changes_once, ontology_once}
use Rattle.gated_log.specs.Entries.{Entry, body, spelling}
use Rattle.gated_log.proofs.Behind.{length-body}
use Rattle.base_store.specs.History.{History, Empty, Over, payloads, used}
use Rattle.base_store.specs.Legal.{Continues, Leads}
use Rattle.base_store.specs.Laws.{GateStandsAtUsed}

continues_once : (h : History) (e : Entry) (one other : History) → Continues h e one → Continues h e other → one ≡ other
continues_once Empty e one other c d = c.1.2 ∙ ap (λ (o : Terminology). Over o []) (ontology_once e.payload c.1.0 d.1.0 c.1.1 d.1.1) ∙ sym d.1.2
continues_once (Over o before) e one other c d =
    c.1.3 ∙ ap (λ (cs : List NamedChange). Over o (before ++ cs ∷ [])) (changes_once e.payload c.1.0 d.1.0 c.1.1 d.1.1) ∙ sym d.1.3

pub leads_once : (h : History) (es : List Entry) (one other : History) → Leads h es one → Leads h es other → one ≡ other
leads_once h [] one other a b = a ∙ sym b
leads_once h (e ∷ es) one other a b = leads_once b.0 es one other (subst (λ (k : History). Leads k es one) (continues_once h e a.0 b.0 a.1 b.1) a.2) b.2

-- the first entries lead to a history, and the others from there
pub leads_split : (h : History) (es fs : List Entry) (end : History) → Leads h (es ++ fs) end → (mid : History) × Leads h es mid × Leads mid fs end
leads_split h [] fs end l = (h, refl, l)
leads_split h (e ∷ es) fs end l = let r = leads_split l.0 es fs end l.2 in (r.0, (l.0, l.1, r.1), r.2)

-- one entry more
pub leads_more : (h : History) (es : List Entry) (mid : History) (e : Entry) (end : History) → Leads h es mid → Continues mid e end → Leads h (es ++ e ∷ []) end
leads_more h [] mid e end l c = (end, subst (λ (k : History). Continues k e end) l c, refl)
leads_more h (d ∷ es) mid e end l c = (l.0, l.1, leads_more l.0 es mid e end l.2 c)

-- the bytes that an entry takes
pub continues_used : (h : History) (e : Entry) (next : History) → Continues h e next → used next ≡ used h + 6 + length e.payload
continues_used Empty e next c = ap used c.1.2 ∙ omega (arith, ontology_has_its_length e.payload c.1.0 c.1.1)
continues_used (Over o before) e next c =
    let size = λ (payload : List ℕ). 6 + length payload in
    let more : sum_by size (payloads (Over o (before ++ c.1.0 ∷ []))) ≡ sum_by size (payloads (Over o before)) + (0 + (6 + length (changes_bytes c.1.0)))
    = ap (λ (ps : List (List ℕ)). sum_by size (ontology_bytes o ∷ ps)) (map-append changes_bytes before (c.1.0 ∷ [])) ∙ sum_by-append size (payloads (Over o before)) (changes_bytes c.1.0 ∷ []) in
    ap used c.1.3 ∙ omega (arith, more, changes_have_their_length e.payload c.1.0 c.1.1)

leads_used : (h : History) (es : List Entry) (end : History) → Leads h es end → used end ≡ used h + length (spelling es)
leads_used h [] end l = omega (arith, ap used l)
leads_used h (e ∷ es) end l = omega (arith, continues_used h e l.0 l.1, leads_used l.0 es end l.2, length-append (body e) (spelling es), length-body e)

pub gate_stands_at_used : GateStandsAtUsed
gate_stands_at_used es h told = omega (arith, leads_used Empty es h told)
