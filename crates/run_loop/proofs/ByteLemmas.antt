-- The bytes of a script that come in pieces.
use Rattle.std.proofs.Common.{◌≡◌, ◌≤◌, ◌<◌, ◌-◌, ◌^◌, ℕ, List, [], ◌∷◌, ◌++◌, length, take, drop, map, Option, None, Bool, true, false, refl, sym, ◌∙◌, ap, subst, arith, append_assoc, length-append, take-append-drop, inl, inr}
use Rattle.std.specs.List.{flat_map}
use Rattle.std.proofs.lemmas.List.{append-nil, map-append, length-map, length-take, take_all}
use Rattle.host_io.specs.Disk.{Disk}
use Rattle.host_io.specs.Moments.{Left}
use Rattle.axiom_reader.specs.Block.{Progress}
use Rattle.script_reader.specs.Feeding.{LineSoFar, begun, kept, TellsFed, TellsLast}
use Rattle.script_reader.specs.Lines.{HasNoEnd, IsCut, given, last_line}
use Rattle.script_reader.specs.Requests.{Token, Is, Finished, Begun, HoldsRequests, AreRequests}
use Rattle.script_reader.specs.declared.lines.Fed.{Fed}
use Rattle.script_reader.specs.declared.lines.Fed.TheVariants as fed
use Rattle.script_reader.specs.declared.request.Request.{Request}
use Rattle.script_reader.proofs.LineLemmas.{cut_ends, cut_goes_on, kept_more}
use Rattle.script_reader.proofs.FeedingLemmas.{kept_gives_line}
use Rattle.base_engine.specs.State.{MachineState}
use Rattle.run_loop.specs.Serving.{Opening}
use Rattle.run_loop.specs.Taking.{StandFirst, IsTold, Takes, TakesAll, EndedIn, EndedWith, TakesBytes, TakesAllOf, EndedAt, lines_of}
use Rattle.run_loop.specs.declared.fault.Fault.{Fault}
use Rattle.run_loop.proofs.ScriptLemmas.{holds_end}

abbrev pub tokens_of : List (List ℕ) → List Token
tokens_of pieces = map (λ piece. Is (given piece)) pieces

-- ---- how bytes are cut

few_pieces : (pieces : List (List ℕ)) → length pieces ≤ length (flat_map (λ piece. piece ++ 10 ∷ []) pieces)
few_pieces [] = omega arith
few_pieces (p ∷ ps) = omega (arith, few_pieces ps, length-append (p ++ 10 ∷ []) (flat_map (λ piece. piece ++ 10 ∷ []) ps), length-append p (10 ∷ []))

-- there are no more lines than bytes
pub tokens_few : (bytes rest : List ℕ) (pieces : List (List ℕ)) → IsCut bytes pieces rest → length (tokens_of pieces) ≤ length bytes
tokens_few bytes rest pieces c = omega (arith, few_pieces pieces, ap length c.joined, length-append (flat_map (λ piece. piece ++ 10 ∷ []) pieces) rest, length-map pieces (λ piece. Is (given piece)))

pub lines_few : (tokens : List Token) (f : Fed) (bytes : List ℕ) → length tokens < 2 ^ 62 → length (tokens ++ lines_of f bytes) < 2 ^ 63
lines_few tokens fed.More bytes few = omega (arith, few, length-append tokens [])
lines_few tokens fed.Line bytes few = omega (arith, few, length-append tokens (Is (given bytes) ∷ []))
lines_few tokens fed.TooLong bytes few = omega (arith, few, length-append tokens (Is (given bytes) ∷ []))

-- ---- bytes that are fed

-- the bytes with those that were fed, and their lines
pub record IsFedCut (bytes : List ℕ) (pieces : List (List ℕ)) (f : Fed) (line : LineSoFar) : Type 0 where
  pub now : List (List ℕ)
  pub rest : List ℕ
  pub cut : IsCut bytes now rest
  pub line_is : begun line ≡ kept rest
  pub tokens_are : tokens_of pieces ++ lines_of f line.bytes ≡ tokens_of now

-- what is kept of a piece that goes on in the line
kept_on : (old : LineSoFar) (rest text : List ℕ) → begun old ≡ kept rest → kept (begun old ++ text) ≡ kept (rest ++ text)
kept_on old rest text is = ap (λ (l : List ℕ). kept (l ++ text)) is ∙ kept_more rest text

ended_cut : (bytes rest text : List ℕ) (pieces : List (List ℕ)) (f : Fed) (old new : LineSoFar) → IsCut bytes pieces rest → begun old ≡ kept rest → HasNoEnd text → new ≡ record { bytes = kept (begun old ++ text); ended = true }
    → lines_of f new.bytes ≡ Is (given new.bytes) ∷ [] → IsFedCut (bytes ++ (text ++ 10 ∷ [])) pieces f new
ended_cut bytes rest text pieces f old new c is none now line =
    let bytes_are : new.bytes ≡ kept (rest ++ text) = ap (λ (l : LineSoFar). l.bytes) now ∙ kept_on old rest text is in
    let same : given new.bytes ≡ given (rest ++ text) = ap given bytes_are ∙ kept_gives_line (rest ++ text) in
    record {
      now = pieces ++ (rest ++ text) ∷ [];
      rest = [];
      cut = cut_ends bytes text rest pieces c none;
      line_is = ap begun now;
      tokens_are = ap (λ (l : List Token). tokens_of pieces ++ l) (line ∙ ap (λ (x : Option (List ℕ)). Is x ∷ []) same) ∙ sym (map-append (λ piece. Is (given piece)) pieces ((rest ++ text) ∷ []));
    }

pub fed_cut : (bytes rest input : List ℕ) (pieces : List (List ℕ)) (count : ℕ) (f : Fed) (old new : LineSoFar) → IsCut bytes pieces rest → begun old ≡ kept rest → TellsFed old input count f new → IsFedCut (bytes ++ take count input) pieces f new
fed_cut bytes rest input pieces count fed.More old new c is g =
    let all : take count input ≡ input = take_all count input (omega (arith, g.all)) in
    subst (λ (l : List ℕ). IsFedCut (bytes ++ l) pieces fed.More new) (sym all) (record {
      now = pieces;
      rest = rest ++ input;
      cut = cut_goes_on bytes input rest pieces c g.no_end;
      line_is = ap begun g.now ∙ kept_on old rest input is;
      tokens_are = append-nil (tokens_of pieces);
    })
fed_cut bytes rest input pieces count fed.Line old new c is (e, line) =
    subst (λ (l : List ℕ). IsFedCut (bytes ++ l) pieces fed.Line new) (sym e.taken) (ended_cut bytes rest e.text pieces fed.Line old new c is e.no_end e.now refl)
fed_cut bytes rest input pieces count fed.TooLong old new c is (e, line) =
    subst (λ (l : List ℕ). IsFedCut (bytes ++ l) pieces fed.TooLong new) (sym e.taken) (ended_cut bytes rest e.text pieces fed.TooLong old new c is e.no_end e.now refl)

pub fed_told : (input : List ℕ) (count : ℕ) (f : Fed) (old new : LineSoFar) → TellsFed old input count f new → IsTold f new.bytes
fed_told input count fed.More old new g = tt
fed_told input count fed.Line old new (e, line) = line
fed_told input count fed.TooLong old new (e, line) = line

pub last_told : (f : Fed) (old new : LineSoFar) → TellsLast old f new → IsTold f new.bytes
last_told fed.More old new g = tt
last_told fed.Line old new g = g.2
last_told fed.TooLong old new g = g.2

-- ---- the last line

kept_nothing : (bytes : List ℕ) → kept bytes ≡ [] → bytes ≡ []
kept_nothing [] is = refl
kept_nothing (b ∷ bytes) is = absurd (omega (arith, length-take 4098 (b ∷ bytes), ap length is))

last_some : (bytes line : List ℕ) → line ≡ kept bytes → 0 < length line → tokens_of (last_line bytes) ≡ Is (given line) ∷ []
last_some [] line is some = absurd (omega (arith, some, ap length is))
last_some (b ∷ bytes) line is some = ap (λ (x : Option (List ℕ)). Is x ∷ []) (sym (ap given is ∙ kept_gives_line (b ∷ bytes)))

pub last_tokens : (rest : List ℕ) (f : Fed) (old new : LineSoFar) → begun old ≡ kept rest → TellsLast old f new → tokens_of (last_line rest) ≡ lines_of f new.bytes
last_tokens rest fed.More old new is g = ap (λ (l : List ℕ). tokens_of (last_line l)) (kept_nothing rest (sym is ∙ g.0))
last_tokens rest fed.Line old new is g = let same : new.bytes ≡ begun old = ap (λ (l : LineSoFar). l.bytes) g.1 in last_some rest new.bytes (same ∙ is) (omega (arith, g.0, ap length same))
last_tokens rest fed.TooLong old new is g = let same : new.bytes ≡ begun old = ap (λ (l : LineSoFar). l.bytes) g.1 in last_some rest new.bytes (same ∙ is) (omega (arith, g.0, ap length same))

-- ---- requests of bytes

pub open_requests : (bytes rest : List ℕ) (pieces : List (List ℕ)) (requests : List Request) (b : Option Begun) → IsCut bytes pieces rest → HoldsRequests (tokens_of pieces) requests b → AreRequests bytes false requests
open_requests bytes rest pieces requests b c holds = record {
  tokens = tokens_of pieces;
  script = record { pieces = pieces; rest = rest; cut = c; are = sym (append-nil (tokens_of pieces)) };
  begun = b;
  holds = holds;
}

pub all_requests : (bytes rest : List ℕ) (pieces : List (List ℕ)) (lines : List Token) (requests : List Request) (b : Option Begun) → IsCut bytes pieces rest → tokens_of (last_line rest) ≡ lines
    → HoldsRequests ((tokens_of pieces ++ lines) ++ Finished ∷ []) requests b → AreRequests bytes true requests
all_requests bytes rest pieces lines requests b c last holds = record {
  tokens = (tokens_of pieces ++ lines) ++ Finished ∷ [];
  script = record {
    pieces = pieces;
    rest = rest;
    cut = c;
    are = append_assoc (tokens_of pieces) lines (Finished ∷ []) ∙ ap (λ (l : List Token). tokens_of pieces ++ (l ++ Finished ∷ [])) (sym last);
  };
  begun = b;
  holds = holds;
}

pub first_open : (bytes more : List ℕ) (ended : Bool) (requests : List Request) → AreRequests bytes false requests → StandFirst (bytes ++ more) ended requests
first_open bytes more ended requests are = record { front = bytes; more = more; parts = refl; whole = false; at_end = λ no. absurd cc; are = are }

pub first_whole : (bytes : List ℕ) (requests : List Request) → AreRequests bytes true requests → StandFirst bytes true requests
first_whole bytes requests are = record { front = bytes; more = []; parts = sym (append-nil bytes); whole = true; at_end = λ _. (refl, refl); are = are }

pub first_longer : (bytes more : List ℕ) (ended : Bool) (requests : List Request) → StandFirst bytes false requests → StandFirst (bytes ++ more) ended requests
first_longer bytes more ended requests f = record {
  front = f.front;
  more = f.more ++ more;
  parts = ap (λ (l : List ℕ). l ++ more) f.parts ∙ append_assoc f.front f.more more;
  whole = f.whole;
  at_end = λ is. let no = (f.at_end is).0 in absurd cc;
  are = f.are;
}

-- ---- a host

module _ {H : Type 0} (disk : H → Option Disk) (printed : H → Option (List ℕ)) (clock : H → ℕ) (might : H → ℕ → Left → Type 0) (start : H) where
  module _ (stands : MachineState → Type 0) (a : Opening) (read : List ℕ) (old : LineSoFar) (block : Option Progress) (host : H) (t : TakesBytes disk printed clock might start stands a read old block host) where
    -- bytes were fed, and what came of them was taken
    module _ (input : List ℕ) (count : ℕ) (f : Fed) (new : LineSoFar) (tells : TellsFed old input count f new) where
      fed_now : IsFedCut (read ++ take count input) t.pieces f new
      fed_now = fed_cut read t.rest input t.pieces count f old new t.cut t.line_is tells

      pub bytes_taken : (next : MachineState → Type 0) (block' : Option Progress) (host' : H) → Takes disk printed clock might start next a (tokens_of t.pieces ++ lines_of f new.bytes) block' host'
          → TakesBytes disk printed clock might start next a (read ++ take count input) new block' host'
      bytes_taken next block' host' takes =
          let c = fed_now in
          record { pieces = c.now; rest = c.rest; cut = c.cut; line_is = c.line_is; takes = subst (λ (l : List Token). Takes disk printed clock might start next a l block' host') c.tokens_are takes }

      pub bytes_ended : (x : Fault) (host' : H) → EndedIn disk printed clock might start a (tokens_of t.pieces) (lines_of f new.bytes) x host' → EndedAt disk printed clock might start a (read ++ input) false x host'
      bytes_ended x host' (inl e) = record {
        requests = e.1.requests;
        first = first_open read input false e.1.requests (open_requests read t.rest t.pieces e.1.requests e.0 t.cut e.1.holds);
        within = e.1.ended;
      }
      bytes_ended x host' (inr e) =
          let c = fed_now in
          let are = open_requests (read ++ take count input) c.rest c.now e.requests None c.cut (subst (λ (l : List Token). HoldsRequests l e.requests None) c.tokens_are e.holds) in
          record {
            requests = e.requests;
            first = subst (λ (l : List ℕ). StandFirst l false e.requests) (append_assoc read (take count input) (drop count input) ∙ ap (λ (l : List ℕ). read ++ l) (take-append-drop count input))
                (first_open (read ++ take count input) (drop count input) false e.requests are);
            within = e.ended;
          }

    -- the bytes have ended
    module _ (f : Fed) (new : LineSoFar) (tells : TellsLast old f new) where
      last_now : tokens_of (last_line t.rest) ≡ lines_of f new.bytes
      last_now = last_tokens t.rest f old new t.line_is tells

      pub all_taken : (host' : H) → TakesAll disk printed clock might start a ((tokens_of t.pieces ++ lines_of f new.bytes) ++ Finished ∷ []) host' → TakesAllOf disk printed clock might start a read true host'
      all_taken host' all = record {
        requests = all.requests;
        are = all_requests read t.rest t.pieces (lines_of f new.bytes) all.requests all.begun t.cut last_now all.holds;
        state = all.state;
        serves = all.serves;
      }

      pub end_ended : (x : Fault) (host' : H) → EndedWith disk printed clock might start a ((tokens_of t.pieces ++ lines_of f new.bytes) ++ Finished ∷ []) None x host' → EndedAt disk printed clock might start a read true x host'
      end_ended x host' e = record {
        requests = e.requests;
        first = first_whole read e.requests (all_requests read t.rest t.pieces (lines_of f new.bytes) e.requests None t.cut last_now e.holds);
        within = e.ended;
      }

      pub last_ended : (x : Fault) (host' : H) → EndedIn disk printed clock might start a (tokens_of t.pieces) (lines_of f new.bytes) x host' → EndedAt disk printed clock might start a read true x host'
      last_ended x host' (inl e) = record {
        requests = e.1.requests;
        first = subst (λ (l : List ℕ). StandFirst l true e.1.requests) (append-nil read) (first_open read [] true e.1.requests (open_requests read t.rest t.pieces e.1.requests e.0 t.cut e.1.holds));
        within = e.1.ended;
      }
      last_ended x host' (inr e) = end_ended x host' (record { requests = e.requests; holds = holds_end _ e.requests e.holds; ended = e.ended })

  -- more bytes behind those at which the run ended
  pub ended_before : (a : Opening) (bytes more : List ℕ) (x : Fault) (host : H) → EndedAt disk printed clock might start a bytes false x host → EndedAt disk printed clock might start a (bytes ++ more) false x host
  ended_before a bytes more x host e = record { requests = e.requests; first = first_longer bytes more false e.requests e.first; within = e.within }
