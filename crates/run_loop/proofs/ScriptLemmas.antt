-- What stands in a script that goes on.
use Rattle.std.proofs.Common.{◌≡◌, ◌≤◌, ◌<◌, ◌^◌, ℕ, List, [], ◌∷◌, ◌++◌, length, Option, Some, None, Bool, true, false, Result, refl, sym, ◌∙◌, ap, subst, arith, append_assoc, length-append, inl}
use Rattle.std.specs.Prelude.{IsTrue}
use Rattle.std.specs.List.{flat_map}
use Rattle.std.proofs.lemmas.List.{append-nil, map-append, length-map}
use Rattle.std.proofs.lemmas.Grind.{flat_map-append}
use Rattle.host_io.specs.Disk.{Disk}
use Rattle.host_io.specs.Moments.{Left}
use Rattle.dl_base.specs.Ontology.{Terminology}
use Rattle.axiom_reader.specs.Block.{Line, IsProgressOf, Progress, BlockGives}
use Rattle.axiom_reader.specs.declared.block.BlockError.{BlockError}
use Rattle.script_reader.specs.Requests.{Token, Is, Finished, Part, Skipped, Single, Block, End, spelled, asked, IsPart, ClosesBlock, EndsBlock, OpensBlock, Asks, SaysNothing, Begun, begun_lines, HoldsRequests}
use Rattle.script_reader.specs.declared.request.Request.{Request}
use Rattle.script_reader.specs.declared.request.Request.TheVariants as request
use Rattle.script_reader.proofs.ListLemmas.{all_push}
use Rattle.base_engine.specs.State.{MachineState}
use Rattle.run_loop.specs.Serving.{Opening, Serves, Ended}
use Rattle.run_loop.specs.Taking.{KeepsBlock, Takes, TakesAll, EndedIn, EndedWith}
use Rattle.run_loop.specs.declared.fault.Fault.{Fault}
use Rattle.run_loop.specs.declared.fault.Fault.TheVariants as fault

-- ---- parts

part_more : (parts : List Part) (p : Part) → flat_map spelled (parts ++ p ∷ []) ≡ flat_map spelled parts ++ spelled p
part_more parts p = flat_map-append spelled parts (p ∷ []) ∙ ap (λ (l : List Token). flat_map spelled parts ++ l) (append-nil (spelled p))

asked_more : (parts : List Part) (p : Part) → flat_map asked (parts ++ p ∷ []) ≡ flat_map asked parts ++ asked p
asked_more parts p = flat_map-append asked parts (p ∷ []) ∙ ap (λ (l : List Request). flat_map asked parts ++ l) (append-nil (asked p))

pub nothing_held : HoldsRequests [] [] None
nothing_held = record { parts = []; spells = refl; each = tt; are = refl; block = tt }

-- a part is whole with this line or end
pub holds_part : (tokens : List Token) (requests : List Request) (begun : Option Begun) (last : Token) (p : Part) → HoldsRequests tokens requests begun → begun_lines begun ++ last ∷ [] ≡ spelled p → IsPart p
    → HoldsRequests (tokens ++ last ∷ []) (requests ++ asked p) None
holds_part tokens requests begun last p h is part = record {
  parts = h.parts ++ p ∷ [];
  spells = ap (λ (l : List Token). l ++ last ∷ []) h.spells ∙ append_assoc (flat_map spelled h.parts) (begun_lines begun) (last ∷ []) ∙ ap (λ (l : List Token). flat_map spelled h.parts ++ l) is
      ∙ sym (part_more h.parts p) ∙ sym (append-nil (flat_map spelled (h.parts ++ p ∷ [])));
  each = all_push IsPart h.parts p h.each part;
  are = ap (λ (l : List Request). l ++ asked p) h.are ∙ sym (asked_more h.parts p);
  block = tt;
}

pub holds_nothing : (tokens : List Token) (requests : List Request) (line : Line) → HoldsRequests tokens requests None → SaysNothing line → HoldsRequests (tokens ++ Is line ∷ []) requests None
holds_nothing tokens requests line h is = subst (λ (l : List Request). HoldsRequests (tokens ++ Is line ∷ []) l None) (append-nil requests) (holds_part tokens requests None (Is line) (Skipped line) h refl is)

pub holds_end : (tokens : List Token) (requests : List Request) → HoldsRequests tokens requests None → HoldsRequests (tokens ++ Finished ∷ []) requests None
holds_end tokens requests h = subst (λ (l : List Request). HoldsRequests (tokens ++ Finished ∷ []) l None) (append-nil requests) (holds_part tokens requests None Finished End h refl tt)

pub holds_single : (tokens : List Token) (requests : List Request) (line : Line) (q : Request) → HoldsRequests tokens requests None → Asks line q → HoldsRequests (tokens ++ Is line ∷ []) (requests ++ q ∷ []) None
holds_single tokens requests line q h is = holds_part tokens requests None (Is line) (Single line q) h refl is

pub holds_block : (tokens : List Token) (requests : List Request) (b : Begun) (last : Token) (whole : Bool) (result : Result Terminology BlockError) → HoldsRequests tokens requests (Some b) → ClosesBlock last whole → BlockGives b.inside whole result
    → HoldsRequests (tokens ++ last ∷ []) (requests ++ request.Block result ∷ []) None
holds_block tokens requests b last whole result h ends gives =
    holds_part tokens requests (Some b) last (Block b.opening b.inside last result) h refl (record { opens = h.block.0; goes_on = h.block.1; whole = whole; ends = ends; gives = gives })

pub holds_opens : (tokens : List Token) (requests : List Request) (line : Line) → HoldsRequests tokens requests None → OpensBlock line → HoldsRequests (tokens ++ Is line ∷ []) requests (Some (record { opening = line; inside = [] }))
holds_opens tokens requests line h is = record {
  parts = h.parts;
  spells = ap (λ (l : List Token). l ++ Is line ∷ []) (h.spells ∙ append-nil (flat_map spelled h.parts));
  each = h.each;
  are = h.are;
  block = (is, tt);
}

pub holds_inside : (tokens : List Token) (requests : List Request) (b : Begun) (line : Line) → HoldsRequests tokens requests (Some b) → (EndsBlock line → ⊥)
    → HoldsRequests (tokens ++ Is line ∷ []) requests (Some (record { opening = b.opening; inside = b.inside ++ line ∷ [] }))
holds_inside tokens requests b line h is = record {
  parts = h.parts;
  spells = ap (λ (l : List Token). l ++ Is line ∷ []) h.spells ∙ append_assoc (flat_map spelled h.parts) (begun_lines (Some b)) (Is line ∷ [])
      ∙ ap (λ (l : List Token). flat_map spelled h.parts ++ Is b.opening ∷ l) (sym (map-append Is b.inside (line ∷ [])));
  each = h.each;
  are = h.are;
  block = (h.block.0, all_push (λ l. EndsBlock l → ⊥) b.inside line h.block.1 is);
}

-- fewer lines stand in a block than in the script
pub inside_few : (tokens : List Token) (requests : List Request) (b : Begun) → HoldsRequests tokens requests (Some b) → length b.inside ≤ length tokens
inside_few tokens requests b h = omega (arith, ap length h.spells, length-append (flat_map spelled h.parts) (begun_lines (Some b)), length-map b.inside Is)

pub none_begun : (tokens : List Token) (requests : List Request) (begun : Option Begun) → KeepsBlock begun None → HoldsRequests tokens requests begun → HoldsRequests tokens requests None
none_begun tokens requests None keeps h = h
none_begun tokens requests (Some b) keeps h = absurd keeps

-- a block that is begun
record HasBegun (tokens : List Token) (requests : List Request) (p : Progress) : Type 0 where
  b : Begun
  holds : HoldsRequests tokens requests (Some b)
  keeps : IsProgressOf b.inside p

some_begun : (tokens : List Token) (requests : List Request) (begun : Option Begun) (p : Progress) → KeepsBlock begun (Some p) → HoldsRequests tokens requests begun → HasBegun tokens requests p
some_begun tokens requests None p keeps h = absurd keeps
some_begun tokens requests (Some b) p keeps h = record { b = b; holds = h; keeps = keeps }

-- ---- a host

module _ {H : Type 0} (disk : H → Option Disk) (printed : H → Option (List ℕ)) (clock : H → ℕ) (might : H → ℕ → Left → Type 0) (start : H) where
  -- there was no memory for a line
  pub wanted : (stands : MachineState → Type 0) (a : Opening) (tokens more : List Token) (block : Option Progress) (host : H) → Takes disk printed clock might start stands a tokens block host → EndedIn disk printed clock might start a tokens more fault.Memory host
  wanted stands a tokens more block host t = inl (
    t.begun,
    record {
      requests = t.requests;
      holds = t.holds;
      ended = record {
        left = record { first = t.requests; rest = []; parts = sym (append-nil t.requests); state = t.state; replied = t.serves.replied };
        moments = t.serves.moments;
      };
    },
  )

  -- the line says nothing
  pub takes_nothing : (stands : MachineState → Type 0) (a : Opening) (tokens : List Token) (line : Line) (host : H) → Takes disk printed clock might start stands a tokens None host → SaysNothing line → Takes disk printed clock might start stands a (tokens ++ Is line ∷ []) None host
  takes_nothing stands a tokens line host t is = record {
    requests = t.requests;
    begun = None;
    holds = holds_nothing tokens t.requests line (none_begun tokens t.requests t.begun t.keeps t.holds) is;
    keeps = tt;
    state = t.state;
    stands_for = t.stands_for;
    serves = t.serves;
  }

  -- the line opens a block
  pub takes_opens : (stands : MachineState → Type 0) (a : Opening) (tokens : List Token) (line : Line) (p : Progress) (host : H) → Takes disk printed clock might start stands a tokens None host → OpensBlock line → IsProgressOf [] p
      → Takes disk printed clock might start stands a (tokens ++ Is line ∷ []) (Some p) host
  takes_opens stands a tokens line p host t is empty = record {
    requests = t.requests;
    begun = Some (record { opening = line; inside = [] });
    holds = holds_opens tokens t.requests line (none_begun tokens t.requests t.begun t.keeps t.holds) is;
    keeps = empty;
    state = t.state;
    stands_for = t.stands_for;
    serves = t.serves;
  }

  -- the line goes on with the block
  pub takes_inside : (stands : MachineState → Type 0) (a : Opening) (tokens : List Token) (line : Line) (p q : Progress) (host : H) → length tokens < 2 ^ 63 → Takes disk printed clock might start stands a tokens (Some p) host → (EndsBlock line → ⊥)
      → ((lines : List Line) → IsProgressOf lines p → length lines < 2 ^ 63 → IsProgressOf (lines ++ line ∷ []) q) → Takes disk printed clock might start stands a (tokens ++ Is line ∷ []) (Some q) host
  takes_inside stands a tokens line p q host few t is goes_on =
      let has = some_begun tokens t.requests t.begun p t.keeps t.holds in
      record {
        requests = t.requests;
        begun = Some (record { opening = has.b.opening; inside = has.b.inside ++ line ∷ [] });
        holds = holds_inside tokens t.requests has.b line has.holds is;
        keeps = goes_on has.b.inside has.keeps (omega (arith, few, inside_few tokens t.requests has.b has.holds));
        state = t.state;
        stands_for = t.stands_for;
        serves = t.serves;
      }

  -- the request of a line, or of a block with its last line or the script's end
  pub whole_single : (stands : MachineState → Type 0) (a : Opening) (tokens : List Token) (line : Line) (q : Request) (host : H) (t : Takes disk printed clock might start stands a tokens None host) → Asks line q → HoldsRequests (tokens ++ Is line ∷ []) (t.requests ++ q ∷ []) None
  whole_single stands a tokens line q host t asks = holds_single tokens t.requests line q (none_begun tokens t.requests t.begun t.keeps t.holds) asks

  pub whole_block : (stands : MachineState → Type 0) (a : Opening) (tokens : List Token) (last : Token) (whole : Bool) (p : Progress) (result : Result Terminology BlockError) (q : Request) (host : H) → length tokens < 2 ^ 63
      → (t : Takes disk printed clock might start stands a tokens (Some p) host) → q ≡ request.Block result → ClosesBlock last whole → ((lines : List Line) → IsProgressOf lines p → length lines < 2 ^ 63 → BlockGives lines whole result)
      → HoldsRequests (tokens ++ last ∷ []) (t.requests ++ q ∷ []) None
  whole_block stands a tokens last whole p result q host few t is ends gives =
      let has = some_begun tokens t.requests t.begun p t.keeps t.holds in
      subst (λ (x : Request). HoldsRequests (tokens ++ last ∷ []) (t.requests ++ x ∷ []) None) (sym is) (holds_block tokens t.requests has.b last whole result has.holds ends (gives has.b.inside has.keeps (omega (arith, few, inside_few tokens t.requests has.b has.holds))))

  pub takes_answered : (stands : MachineState → Type 0) (a : Opening) (tokens : List Token) (requests : List Request) (state : MachineState) (host : H) → HoldsRequests tokens requests None → stands state → Serves disk printed clock might start a requests state host
      → Takes disk printed clock might start stands a tokens None host
  takes_answered stands a tokens requests state host holds stands_for serves = record {
    requests = requests;
    begun = None;
    holds = holds;
    keeps = tt;
    state = state;
    stands_for = stands_for;
    serves = serves;
  }

  pub ended_answered : (a : Opening) (tokens : List Token) (requests : List Request) (f : Fault) (host : H) → HoldsRequests tokens requests None → Ended disk printed clock might start a requests f host → EndedWith disk printed clock might start a tokens None f host
  ended_answered a tokens requests f host holds ended = record { requests = requests; holds = holds; ended = ended }

  pub takes_all : (stands : MachineState → Type 0) (a : Opening) (tokens : List Token) (host : H) → Takes disk printed clock might start stands a tokens None host → TakesAll disk printed clock might start a (tokens ++ Finished ∷ []) host
  takes_all stands a tokens host t = record {
    requests = t.requests;
    begun = None;
    holds = holds_end tokens t.requests (none_begun tokens t.requests t.begun t.keeps t.holds);
    state = t.state;
    serves = t.serves;
  }

  pub all_answered : (a : Opening) (tokens : List Token) (requests : List Request) (state : MachineState) (host : H) → HoldsRequests tokens requests None → Serves disk printed clock might start a requests state host → TakesAll disk printed clock might start a tokens host
  all_answered a tokens requests state host holds serves = record { requests = requests; begun = None; holds = holds; state = state; serves = serves }

pub is_true : (b : Bool) → b ≡ true → IsTrue b
is_true b is = is

pub is_false : (b : Bool) → b ≡ false → IsTrue b → ⊥
is_false b is other = cc
