-- What is kept once the next entry was read, and where the area offends.
use Rattle.std.proofs.Common.{◌≡◌, ◌≤◌, ◌+◌, inl, inr, ⊎_elim, ℕ, List, [], ◌∷◌, ◌++◌, length, Option, refl, sym, ◌∙◌, ap, subst, arith, append_assoc, length-append}
use Rattle.std.specs.Prelude.{IfErr, IsErrAnd, Result, Ok, Err, false}
use Rattle.std.specs.Option.{ForSome}
use Rattle.std.proofs.lemmas.List.{append_cancel_left, length-take-le}
use Rattle.host_io.specs.Disk.{Disk, IsSettled}
use Rattle.gated_log.specs.Entries.{BeginsWithEntries, Entry, OffendsBehind, body, gate_place, spelling, within}
use Rattle.gated_log.specs.Fault.{FaultSays}
use Rattle.gated_log.specs.Reading.{AnswersNext, GoesOnWith, IsAll, entry_in}
use Rattle.gated_log.specs.State.{IsBegun, LogReaderState}
use Rattle.gated_log.specs.declared.reader.LogFault.{LogFault}
use Rattle.gated_log.specs.declared.reader.LogFault.TheVariants as log
use Rattle.gated_log.specs.declared.reader.Next.TheVariants.{Entry as AnEntry}
use Rattle.gated_log.proofs.LawLemmas.{alone, begun_twice, body_of_one, inner_entry}
use Rattle.base_store.specs.History.{History, Empty, used}
use Rattle.base_store.specs.Legal.{Continues, Tells}
use Rattle.base_store.specs.Area.{HoldsHistory, IsDamagedBehind, area_limit}
use Rattle.base_store.specs.Loaded.{LoadFaultSays, load_fault}
use Rattle.base_store.specs.Loading.{BeginsWith, HasReadSoFar, HasReadAll, IsLoadingOf, KeepsNext}
use Rattle.base_store.specs.declared.load.LoadFault.{LoadFault}
use Rattle.base_store.specs.declared.loading.Loading.{Loading}
use Rattle.base_store.proofs.Told.{continues_used, gate_stands_at_used, leads_more}

-- ---- faults of the log

pub says_both : (P Q R : ℕ → Type 0) (f : LogFault) → ((at : ℕ) → P at → Q at → R at) → FaultSays P f → FaultSays Q f → LoadFaultSays R (load_fault f)
says_both P Q R log.DiskFault from one other = tt
says_both P Q R (log.Damaged area at) from one other = (one.0, from at one.1 other.1)

-- what is said of the fault that is handed on is said of the answer
pub err_says : {T : Type 0} (result : Result T LoadFault) (f : LogFault) (Q : LoadFault → Type 0) → IsErrAnd result (λ e. e ≡ load_fault f) → Q (load_fault f) → IfErr result Q
err_says (Ok v) f Q is says = tt
err_says (Err e) f Q is says = subst Q (sym is) says

-- ---- entries with the same gate behind them

spelled_length : (es fs : List Entry) → length (spelling (es ++ fs)) ≡ length (spelling es) + length (spelling fs)
spelled_length [] fs = omega arith
spelled_length (e ∷ es) fs = omega (arith, spelled_length es fs, length-append (body e) (spelling (es ++ fs)), length-append (body e) (spelling es))

no_more_spelled : (more : List Entry) → length (spelling more) ≡ 0 → more ≡ []
no_more_spelled [] e = refl
no_more_spelled (m ∷ ms) e = absurd (omega (arith, e))

longer_same : (es fs more : List Entry) → fs ≡ es ++ more → gate_place es ≡ gate_place fs → fs ≡ es
longer_same es fs more all same = alone es more fs all (no_more_spelled more (omega (arith, same, ap (λ (xs : List Entry). length (spelling xs)) all, spelled_length es more)))

same_entries : (area : List ℕ) (es fs : List Entry) (xs ys : List ℕ) → BeginsWithEntries (within area_limit) area es xs → BeginsWithEntries (within area_limit) area fs ys → gate_place es ≡ gate_place fs → es ≡ fs
same_entries area es fs xs ys first second same = ⊎_elim
    (λ r. sym (longer_same es fs r.more r.all same))
    (λ r. longer_same fs es r.more r.all (sym same))
    (begun_twice (within area_limit) area es fs xs ys first second)

-- ---- one area

module _ (area : List ℕ) (h : History) (b : BeginsWith area h) (gate : ℕ) (place : gate ≡ used h) where
  gate_is : gate_place b.entries ≡ gate
  gate_is = gate_stands_at_used b.entries h b.told ∙ sym place

  pub begins_more : (e : Entry) (len : ℕ) (next : History) → GoesOnWith (within area_limit) gate len area e → Continues h e next → BeginsWith area next
  begins_more e len next on leads =
      let more = on b.entries b.rest b.begins gate_is in
      record { entries = b.entries ++ e ∷ []; rest = more.0; begins = more.1; told = leads_more Empty b.entries h e next b.told leads }

  pub holds_all : IsAll (within area_limit) gate area → HoldsHistory area h
  holds_all all = record { entries = b.entries; stands = all b.entries b.rest b.begins gate_is; told = b.told }

  -- the log finds fault
  pub offends_there : (at : ℕ) → OffendsBehind (within area_limit) area at → at ≡ gate → IsDamagedBehind area at
  offends_there at o here =
      let same : b.entries ≡ o.entries = same_entries area b.entries o.entries b.rest o.rest b.begins o.begins (gate_is ∙ sym here ∙ o.place) in
      record {
        entries = o.entries;
        history = h;
        told = subst (λ (es : List Entry). Tells es h) same b.told;
        rest = o.rest;
        begins = o.begins;
        place = o.place;
        offence = ⊎_elim
            (λ none. inl none)
            (λ broken. inr (record { behind = broken.behind; is_open = broken.is_open; not_legal = λ e more next is fits spelled leads. broken.not_whole e more is fits spelled }))
            o.offence;
      }

  -- the entry behind the gate, which begins what is left
  behind_gate : (e : Entry) (more : List ℕ) → BeginsWithEntries (within area_limit) area (b.entries ++ e ∷ []) more → b.rest ≡ 1 ∷ (body e ++ []) ++ more
  behind_gate e more begins = ⊎_elim
      (λ r. r.rest ∙ ap (λ (xs : List Entry). spelling xs ++ more) (sym (append_cancel_left b.entries (e ∷ []) r.more r.all)))
      (λ r. absurd (omega (arith, ap (λ (xs : List Entry). length xs) r.all, length-append (b.entries ++ e ∷ []) r.more, length-append b.entries (e ∷ []))))
      (begun_twice (within area_limit) area b.entries (b.entries ++ e ∷ []) b.rest more b.begins begins)

  -- the entry isn't legal
  pub stuck_there : (e : Entry) (len : ℕ) → GoesOnWith (within area_limit) gate len area e → ((next : History) → Continues h e next → ⊥) → IsDamagedBehind area gate
  stuck_there e len on illegal =
      let more = on b.entries b.rest b.begins gate_is in
      record {
        entries = b.entries;
        history = h;
        told = b.told;
        rest = b.rest;
        begins = b.begins;
        place = sym gate_is;
        offence = inr (record {
          behind = (body e ++ []) ++ more.0;
          is_open = behind_gate e more.0 more.1;
          not_legal = λ f after next is fits spelled leads.
              let one = body_of_one (within area_limit) e f ([] ++ more.0) after (inner_entry (within area_limit) b.entries e [] more.1.each) is (sym (append_assoc (body e) [] more.0) ∙ spelled) in
              illegal next (subst (λ (x : Entry). Continues h x next) (sym one.0) leads);
        });
      }

-- ---- whether the host tells its bytes or not

module _ (disk : Option Disk) (r : LogReaderState) (l : Loading) (read : HasReadSoFar disk r l) where
  pub read_ready : ForSome disk (λ d. IsSettled d × IsBegun (within r.limit) r.gate d.first.reads)
  read_ready = λ d told.
      let a = read.area d told in
      subst (λ (n : ℕ). IsSettled d × IsBegun (within n) r.gate d.first.reads) (sym read.limit) (a.0, (a.1.entries, a.1.rest, a.1.begins, gate_is d.first.reads read.history a.1 r.gate read.place))

  pub read_more : (kind len : ℕ) (buffer : List ℕ) (new : LogReaderState) (m : Loading) → len ≤ length buffer → r.gate + 6 + len ≤ r.limit → new ≡ record r { gate = r.gate + 6 + len; last = r.gate }
      → ForSome disk (λ d. AnswersNext r d.first.reads buffer (AnEntry kind len)) → KeepsNext read.history (entry_in kind len buffer) m → HasReadSoFar disk new m
  read_more kind len buffer new m room fits moved answers next =
      let gate : new.gate ≡ r.gate + 6 + len = ap (λ (s : LogReaderState). s.gate) moved in
      let limit : new.limit ≡ r.limit = ap (λ (s : LogReaderState). s.limit) moved in
      record {
        history = next.next;
        keeps = next.keeps;
        limit = limit ∙ read.limit;
        within = omega (arith, gate, fits, read.limit);
        place = omega (arith, gate, read.place, continues_used read.history (entry_in kind len buffer) next.next next.leads, length-take-le len buffer room);
        area = λ d told.
            let a = read.area d told in (
              a.0,
              begins_more d.first.reads read.history a.1 r.gate read.place (entry_in kind len buffer) len next.next
                  (subst (λ (n : ℕ). GoesOnWith (within n) r.gate len d.first.reads (entry_in kind len buffer)) read.limit (answers d told)) next.leads,
            );
      }

  pub read_all : ForSome disk (λ d. IsAll (within r.limit) r.gate d.first.reads) → HasReadAll disk (record { end = r.gate; limit = r.limit }) l
  read_all answers = record {
    history = read.history;
    keeps = read.keeps;
    limit = read.limit;
    within = read.within;
    place = read.place;
    area = λ d told.
        let a = read.area d told in
        (a.0, holds_all d.first.reads read.history a.1 r.gate read.place (subst (λ (n : ℕ). IsAll (within n) r.gate d.first.reads) read.limit (answers d told)));
  }

  pub read_stuck : (kind len : ℕ) (buffer : List ℕ) → ForSome disk (λ d. AnswersNext r d.first.reads buffer (AnEntry kind len))
      → ((next : History) → Continues read.history (entry_in kind len buffer) next → ⊥) → ForSome disk (λ d. IsDamagedBehind d.first.reads r.gate)
  read_stuck kind len buffer answers illegal = λ d told.
      let a = read.area d told in
      stuck_there d.first.reads read.history a.1 r.gate read.place (entry_in kind len buffer) len
      (subst (λ (n : ℕ). GoesOnWith (within n) r.gate len d.first.reads (entry_in kind len buffer)) read.limit (answers d told)) illegal

  pub read_offends : (f : LogFault) → ForSome disk (λ d. FaultSays (OffendsBehind (within r.limit) d.first.reads) f) → FaultSays (λ at. at ≡ r.gate) f
      → ForSome disk (λ d. LoadFaultSays (IsDamagedBehind d.first.reads) (load_fault f))
  read_offends f offends here = λ d told.
      let a = read.area d told in
      says_both (OffendsBehind (within area_limit) d.first.reads) (λ at. at ≡ r.gate) (IsDamagedBehind d.first.reads) f
      (λ at o is. offends_there d.first.reads read.history a.1 r.gate read.place at o is)
      (subst (λ (n : ℕ). FaultSays (OffendsBehind (within n) d.first.reads) f) read.limit (offends d told)) here

-- before the first entry
pub read_first : (disk : Option Disk) (r : LogReaderState) (l : Loading) → r ≡ record { gate = 17; last = 17; limit = area_limit; finished = false }
    → ForSome disk (λ d. IsSettled d × IsBegun (within area_limit) 17 d.first.reads) → IsLoadingOf l Empty → HasReadSoFar disk r l
read_first disk r l is begun keeps = record {
  history = Empty;
  keeps = keeps;
  limit = ap (λ (s : LogReaderState). s.limit) is;
  within = omega (arith, ap (λ (s : LogReaderState). s.gate) is);
  place = ap (λ (s : LogReaderState). s.gate) is;
  area = λ d told.
      let b = begun d told in
      let none : b.1.0 ≡ [] = no_more_spelled b.1.0 (omega (arith, b.1.3)) in
      (b.0, record { entries = b.1.0; rest = b.1.1; begins = b.1.2; told = subst (λ (es : List Entry). Tells es Empty) (sym none) refl });
}
