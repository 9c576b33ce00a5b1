-- The requests of lines that come one after another.
use Rattle.std.proofs.Common.{◌≡◌, ◌≤◌, ◌<◌, ◌^◌, ℕ, zero, suc, List, [], ◌∷◌, ◌++◌, length, take, Option, Some, None, Bool, false, Result, refl, sym, ap, subst, arith, length-append}
use Rattle.std.specs.Prelude.{All}
use Rattle.std.specs.List.{flat_map}
use Rattle.std.proofs.lemmas.List.Elements.{All-append, All-nil}
use Rattle.dl_base.specs.Ontology.{Terminology}
use Rattle.axiom_reader.specs.Block.{Line, IsProgressOf, Progress, BlockGives}
use Rattle.axiom_reader.specs.declared.block.BlockError.{BlockError}
use Rattle.script_reader.specs.Feeding.{LineSoFar, begun, TellsFed, TellsLast}
use Rattle.script_reader.specs.Lines.{last_line}
use Rattle.script_reader.specs.Requests.{Token, Is, Finished, Part, Skipped, Single, Block, End, spelled, asked, Asks, Begun, begun_lines, ClosesBlock, EndsBlock, HoldsRequests, OpensBlock, SaysNothing}
use Rattle.script_reader.specs.declared.lines.Fed.{Fed}
use Rattle.script_reader.specs.declared.request.Request.{Request}
use Rattle.script_reader.specs.declared.request.Request.TheVariants as request
use Rattle.base_engine.specs.Requests.{IsGiven}
use Rattle.run_loop.specs.Taking.{KeepsBlock, lines_of}
use Rattle.run_loop.proofs.ScriptLemmas.{nothing_held, holds_block, holds_end, holds_inside, holds_nothing, holds_opens, holds_single, inside_few, none_begun}
use Rattle.run_loop.proofs.ByteLemmas.{all_requests, fed_cut, last_tokens, tokens_few, tokens_of}
use Rattle.script_tally.specs.Gathering.{Gathers, GathersAll, GathersBytes}
use Rattle.script_tally.specs.TallyLaws.{RequestsAreFew}

-- ---- one line more

given_more : (requests : List Request) (q : Request) → All IsGiven requests → IsGiven q → All IsGiven (requests ++ q ∷ [])
given_more requests q all is = All-append IsGiven requests (q ∷ []) all one
  where
    one : All IsGiven (q ∷ [])
    one zero d less = is
    one (suc k) d less = absurd (omega (arith, less))

-- nothing is gathered yet
pub none_gathered : (line : LineSoFar) → line ≡ record { bytes = []; ended = false } → GathersBytes [] line [] None
none_gathered line is = record {
  pieces = [];
  rest = [];
  cut = record { joined = refl; none_inside = tt; none_behind = tt };
  line_is = ap begun is;
  gathers = record { begun = None; holds = nothing_held; keeps = tt; given = All-nil IsGiven };
}

module _ (tokens : List Token) (requests : List Request) where
  -- a line that says nothing
  pub gathers_nothing : (line : Line) → Gathers tokens requests None → SaysNothing line → Gathers (tokens ++ Is line ∷ []) requests None
  gathers_nothing line g is = record {
    begun = None;
    holds = holds_nothing tokens requests line (none_begun tokens requests g.begun g.keeps g.holds) is;
    keeps = tt;
    given = g.given;
  }

  -- a line that opens a block
  pub gathers_opens : (line : Line) (p : Progress) → Gathers tokens requests None → OpensBlock line → IsProgressOf [] p → Gathers (tokens ++ Is line ∷ []) requests (Some p)
  gathers_opens line p g is empty = record {
    begun = Some (record { opening = line; inside = [] });
    holds = holds_opens tokens requests line (none_begun tokens requests g.begun g.keeps g.holds) is;
    keeps = empty;
    given = g.given;
  }

  -- a line that is a request
  pub gathers_single : (line : Line) (q : Request) (new : List Request) → Gathers tokens requests None → Asks line q × IsGiven q → new ≡ requests ++ q ∷ [] → Gathers (tokens ++ Is line ∷ []) new None
  gathers_single line q new g asks is = subst (λ (l : List Request). Gathers (tokens ++ Is line ∷ []) l None) (sym is) (record {
    begun = None;
    holds = holds_single tokens requests line q (none_begun tokens requests g.begun g.keeps g.holds) asks.0;
    keeps = tt;
    given = given_more requests q g.given asks.1;
  })

  -- a line that goes on with the block
  pub gathers_inside : (line : Line) (p q : Progress) → length tokens < 2 ^ 62 → Gathers tokens requests (Some p) → (EndsBlock line → ⊥)
      → ((lines : List Line) → IsProgressOf lines p → length lines < 2 ^ 63 → IsProgressOf (lines ++ line ∷ []) q) → Gathers (tokens ++ Is line ∷ []) requests (Some q)
  gathers_inside line p q few g is goes_on = by g.begun g.holds g.keeps
    where
      by : (b : Option Begun) → HoldsRequests tokens requests b → KeepsBlock b (Some p) → Gathers (tokens ++ Is line ∷ []) requests (Some q)
      by None holds keeps = absurd keeps
      by (Some b) holds keeps = record {
        begun = Some (record { opening = b.opening; inside = b.inside ++ line ∷ [] });
        holds = holds_inside tokens requests b line holds is;
        keeps = goes_on b.inside keeps (omega (arith, few, inside_few tokens requests b holds));
        given = g.given;
      }

  -- a block with its last line, or with the script's end
  pub gathers_block : (last : Token) (whole : Bool) (p : Progress) (result : Result Terminology BlockError) (q : Request) (new : List Request) → length tokens < 2 ^ 63 → Gathers tokens requests (Some p) → q ≡ request.Block result → IsGiven q → ClosesBlock last whole
      → ((lines : List Line) → IsProgressOf lines p → length lines < 2 ^ 63 → BlockGives lines whole result) → new ≡ requests ++ q ∷ [] → Gathers (tokens ++ last ∷ []) new None
  gathers_block last whole p result q new few g is given ends gives now = by g.begun g.holds g.keeps
    where
      by : (b : Option Begun) → HoldsRequests tokens requests b → KeepsBlock b (Some p) → Gathers (tokens ++ last ∷ []) new None
      by None holds keeps = absurd keeps
      by (Some b) holds keeps = subst (λ (l : List Request). Gathers (tokens ++ last ∷ []) l None) (sym now) (record {
        begun = None;
        holds = subst (λ (x : Request). HoldsRequests (tokens ++ last ∷ []) (requests ++ x ∷ []) None) (sym is)
            (holds_block tokens requests b last whole result holds ends (gives b.inside keeps (omega (arith, few, inside_few tokens requests b holds))));
        keeps = tt;
        given = given_more requests q g.given given;
      })

  -- the script's end, where no block is begun
  pub gathers_end : Gathers tokens requests None → Gathers (tokens ++ Finished ∷ []) requests None
  gathers_end g = record { begun = None; holds = holds_end tokens requests (none_begun tokens requests g.begun g.keeps g.holds); keeps = tt; given = g.given }

-- ---- bytes

module _ (read : List ℕ) (old : LineSoFar) (requests : List Request) (block : Option Progress) (g : GathersBytes read old requests block) where
  pub gathered_few : length read < 2 ^ 62 → length (tokens_of g.pieces) < 2 ^ 62
  gathered_few few = omega (arith, few, tokens_few read g.rest g.pieces g.cut)

  -- bytes were fed, and what came of them was taken
  pub bytes_gathered : (input : List ℕ) (count : ℕ) (f : Fed) (new : LineSoFar) → TellsFed old input count f new → (requests' : List Request) (block' : Option Progress) → Gathers (tokens_of g.pieces ++ lines_of f new.bytes) requests' block'
      → GathersBytes (read ++ take count input) new requests' block'
  bytes_gathered input count f new tells requests' block' gathers =
      let c = fed_cut read g.rest input g.pieces count f old new g.cut g.line_is tells in
      record { pieces = c.now; rest = c.rest; cut = c.cut; line_is = c.line_is; gathers = subst (λ (l : List Token). Gathers l requests' block') c.tokens_are gathers }

  -- the bytes have ended
  pub all_gathered : (f : Fed) (new : LineSoFar) → TellsLast old f new → (requests' : List Request) → Gathers ((tokens_of g.pieces ++ lines_of f new.bytes) ++ Finished ∷ []) requests' None → GathersAll read requests'
  all_gathered f new tells requests' gathers = record {
    are = all_requests read g.rest g.pieces (lines_of f new.bytes) requests' gathers.begun g.cut (last_tokens g.rest f old new g.line_is tells) gathers.holds;
    given = gathers.given;
  }

-- ---- one of several

pub given_at : {X : Type 0} (P : X → Type 0) (front : List X) (x : X) (rest : List X) → All P (front ++ x ∷ rest) → P x
given_at P [] x rest all = all 0 x (omega arith)
given_at P (y ∷ front) x rest all = given_at P front x rest (λ k d less. all (suc k) d (omega (arith, less)))

-- ---- how many requests there are

asked_few : (p : Part) → length (asked p) ≤ length (spelled p)
asked_few (Skipped line) = omega arith
asked_few (Single line q) = omega arith
asked_few (Block opening inside last result) = omega arith
asked_few End = omega arith

parts_few : (parts : List Part) → length (flat_map asked parts) ≤ length (flat_map spelled parts)
parts_few [] = omega arith
parts_few (p ∷ parts) = omega (arith, asked_few p, parts_few parts, length-append (asked p) (flat_map asked parts), length-append (spelled p) (flat_map spelled parts))

pub requests_are_few : RequestsAreFew
requests_are_few script requests are =
    let h = are.holds in
    let s = are.script in
    let tail = tokens_of (last_line s.rest) ++ Finished ∷ [] in
    omega (
      arith,
      ap length h.are,
      parts_few h.parts,
      ap length h.spells,
      length-append (flat_map spelled h.parts) (begun_lines are.begun),
      ap length s.are,
      length-append (tokens_of s.pieces) tail,
      length-append (tokens_of (last_line s.rest)) (Finished ∷ []),
      length-tokens s.rest,
      tokens_few script s.rest s.pieces s.cut,
    )
  where
    length-tokens : (rest : List ℕ) → length (tokens_of (last_line rest)) ≤ 1
    length-tokens [] = omega arith
    length-tokens (b ∷ bytes) = omega arith
