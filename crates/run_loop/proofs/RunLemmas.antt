-- A run so far, and how it ends.
use Rattle.std.proofs.Common.{◌≡◌, ⊎_elim, ◌≤◌, ◌+◌, ℕ, List, [], ◌++◌, length, take, Option, Some, None, Bool, true, false, refl, sym, ◌∙◌, ap, subst, arith, append_assoc, length-append}
use Rattle.std.proofs.lemmas.List.{append-nil, take_at}
use Rattle.host_io.specs.Disk.{Disk}
use Rattle.host_io.specs.Moments.{Left, LeavesOnly}
use Rattle.host_io.specs.Source.{Takes as TakesFront, AtEnd}
use Rattle.host_io.proofs.Moments.{weaker}
use Rattle.axiom_reader.specs.Block.{Progress}
use Rattle.script_reader.specs.Feeding.{LineSoFar, begun}
use Rattle.script_reader.specs.Requests.{AreRequests}
use Rattle.script_reader.specs.declared.request.Request.{Request}
use Rattle.base_engine.specs.State.{MachineState}
use Rattle.run_loop.specs.Serving.{Opening, HasLeft, Serves}
use Rattle.run_loop.specs.Taking.{StandFirst, TakesBytes, EndedAt, TakesAllOf}
use Rattle.run_loop.specs.Run.{input_limit, RepliedTo, AreFirstRead, Stops, Ends, MayBeLeft, Ran, IsEndingOf, FinishesAs}
use Rattle.run_loop.specs.declared.fault.Fault.{Fault}
use Rattle.run_loop.specs.declared.fault.Fault.TheVariants as fault
use Rattle.run_loop.specs.declared.ending.Ending.{Ending}
use Rattle.run_loop.specs.declared.ending.Ending.TheVariants as ending
use Rattle.run_loop.proofs.ScriptLemmas.{nothing_held}
use Rattle.run_loop.proofs.ByteLemmas.{open_requests, first_open, first_whole}

-- all requests of the bytes stand first in them
all_first : (bytes : List ℕ) (ended : Bool) (requests : List Request) → AreRequests bytes ended requests → StandFirst bytes ended requests
all_first bytes true requests are = first_whole bytes requests are
all_first bytes false requests are = subst (λ (l : List ℕ). StandFirst l false requests) (append-nil bytes) (first_open bytes [] false requests are)

module _ {H : Type 0} (disk : H → Option Disk) (printed : H → Option (List ℕ)) (clock : H → ℕ) (might : H → ℕ → Left → Type 0) (start : H) where
  pub all_so_far : (stands : MachineState → Type 0) (a : Opening) (read : List ℕ) (line : LineSoFar) (block : Option Progress) (host : H) → TakesBytes disk printed clock might start stands a read line block host → TakesAllOf disk printed clock might start a read false host
  all_so_far stands a read line block host t = record {
    requests = t.takes.requests;
    are = open_requests read t.rest t.pieces t.takes.requests t.takes.begun t.cut t.takes.holds;
    state = t.takes.state;
    serves = t.takes.serves;
  }

  module _ (a : Opening) (bytes : List ℕ) (ended : Bool) (host : H) (t : TakesAllOf disk printed clock might start a bytes ended host) where
    pub replied_to : RepliedTo a bytes ended (disk host) (printed host)
    replied_to = record { requests = t.requests; are = t.are; state = t.state; replied = t.serves.replied }

    pub moments_all : (rest : List ℕ) → (ended ≡ true → rest ≡ []) → LeavesOnly clock might start host (MayBeLeft a bytes rest)
    moments_all rest at_end = weaker clock might start host (HasLeft a t.requests) (MayBeLeft a bytes rest) t.serves.moments
        (λ l has. record { requests = t.requests; first = record { ended = ended; at_end = at_end; first = all_first bytes ended t.requests t.are }; has = has })

  pub moments_longer : (a : Opening) (bytes more rest : List ℕ) (host : H) → TakesAllOf disk printed clock might start a bytes false host → LeavesOnly clock might start host (MayBeLeft a (bytes ++ more) rest)
  moments_longer a bytes more rest host t = weaker clock might start host (HasLeft a t.requests) (MayBeLeft a (bytes ++ more) rest) t.serves.moments
      (λ l has. record { requests = t.requests; first = record { ended = false; at_end = λ no. absurd cc; first = first_open bytes more false t.requests t.are }; has = has })

  module _ (a : Opening) (bytes rest : List ℕ) (ended : Bool) (f : Fault) (host : H) (t : EndedAt disk printed clock might start a bytes ended f host) (at_end : ended ≡ true → rest ≡ []) (few : length bytes ≤ input_limit) where
    stops_first : AreFirstRead bytes rest t.requests
    stops_first = record { ended = ended; at_end = at_end; first = t.first }

    stops : Stops f a bytes rest (disk host) (printed host)
    stops = record { few = few; requests = t.requests; first = stops_first; left = t.within.left }

    pub moments_ended : LeavesOnly clock might start host (MayBeLeft a bytes rest)
    moments_ended = weaker clock might start host (HasLeft a t.requests) (MayBeLeft a bytes rest) t.within.moments (λ l has. record { requests = t.requests; first = stops_first; has = has })

    pub ends_by : (e : Ending) → IsEndingOf e f → Ends e a bytes rest (disk host) (printed host)
    ends_by e is = by f stops is
      where
        by : (g : Fault) → Stops g a bytes rest (disk host) (printed host) → IsEndingOf e g → Ends e a bytes rest (disk host) (printed host)
        by fault.Disk s same = subst (λ (x : Ending). Ends x a bytes rest (disk host) (printed host)) (sym same) s
        by fault.Print s same = subst (λ (x : Ending). Ends x a bytes rest (disk host) (printed host)) (sym same) s
        by fault.Memory s same = subst (λ (x : Ending). Ends x a bytes rest (disk host) (printed host)) (sym same) s
        by (fault.Damaged area at) s same = absurd s.left

  -- so many bytes of the input were taken
  pub record Taken (stands : MachineState → Type 0) (a : Opening) (input : List ℕ) (taken : ℕ) (left : Option (List ℕ)) (line : LineSoFar) (block : Option Progress) (host : H) : Type 0 where
    pub read : List ℕ
    pub rest : List ℕ
    pub parts : input ≡ read ++ rest
    pub is_left : left ≡ Some rest
    pub count : length read ≡ taken
    pub bytes : TakesBytes disk printed clock might start stands a read line block host

  pub taken_none : (stands : MachineState → Type 0) (a : Opening) (s : MachineState) (input : List ℕ) (left : Option (List ℕ)) (line : LineSoFar) (host : H) → stands s → Serves disk printed clock might start a [] s host → left ≡ Some input → line ≡ record { bytes = []; ended = false }
      → Taken stands a input 0 left line None host
  taken_none stands a s input left line host is serves told empty = record {
    read = [];
    rest = input;
    parts = refl;
    is_left = told;
    count = refl;
    bytes = record {
      pieces = [];
      rest = [];
      cut = record { joined = refl; none_inside = tt; none_behind = tt };
      line_is = ap begun empty;
      takes = record { requests = []; begun = None; holds = nothing_held; keeps = tt; state = s; stands_for = is; serves = serves };
    };
  }

  module _ (stands : MachineState → Type 0) (a : Opening) (input : List ℕ) (taken : ℕ) (left : Option (List ℕ)) (line : LineSoFar) (block : Option Progress) (host : H) (t : Taken stands a input taken left line block host) (within : taken ≤ input_limit) where
    pub read_failed : (left' : Option (List ℕ)) → left' ≡ left → Ran disk printed clock might a ending.ReadFault input left' start host
    read_failed left' same =
        let all = all_so_far stands a t.read line block host t.bytes in
        record {
          read = t.read;
          rest = t.rest;
          parts = t.parts;
          is_left = same ∙ t.is_left;
          ends = (omega (arith, t.count, within), replied_to a t.read false host all);
          moments = moments_all a t.read false host all t.rest (λ is. absurd (cc));
        }

    pub at_end : (e : Ending) (left' : Option (List ℕ)) (nothing : List ℕ) (new : H) → nothing ≡ [] → TakesFront left left' nothing → AtEnd left → FinishesAs disk printed clock might start a t.read e new → Ran disk printed clock might a e input left' start new
    at_end e left' nothing new none takes end finishes =
        let to = takes.told t.rest t.is_left in
        let same : to.0 ≡ t.rest = sym (to.2 ∙ ap (λ (l : List ℕ). l ++ to.0) none) in
        let over : t.rest ≡ [] = end t.rest t.is_left in
        let few : length t.read ≤ input_limit = omega (arith, t.count, within) in
        ⊎_elim
        (λ done. record {
          read = t.read;
          rest = t.rest;
          parts = t.parts;
          is_left = to.1 ∙ ap Some same;
          ends = subst (λ (x : Ending). Ends x a t.read t.rest (disk new) (printed new)) (sym done.0) (over, few, replied_to a t.read true new done.1);
          moments = moments_all a t.read true new done.1 t.rest (λ _. over);
        })
        (λ failed. record {
          read = t.read;
          rest = t.rest;
          parts = t.parts;
          is_left = to.1 ∙ ap Some same;
          ends = ends_by a t.read t.rest true failed.0 new failed.2 (λ _. over) few e failed.1;
          moments = moments_ended a t.read t.rest true failed.0 new failed.2 (λ _. over) few;
        }) finishes

    module _ (piece : List ℕ) (left' : Option (List ℕ)) (takes : TakesFront left left' piece) where
      pub too_large : taken ≡ input_limit → length piece ≡ 1 → Ran disk printed clock might a ending.InputTooLarge input left' start host
      too_large full one =
          let to = takes.told t.rest t.is_left in
          let all = all_so_far stands a t.read line block host t.bytes in
          let front : take input_limit (t.read ++ piece) ≡ t.read = take_at t.read piece input_limit (t.count ∙ full) in
          record {
            read = t.read ++ piece;
            rest = to.0;
            parts = t.parts ∙ ap (λ (l : List ℕ). t.read ++ l) to.2 ∙ sym (append_assoc t.read piece to.0);
            is_left = to.1;
            ends = (
              omega (arith, length-append t.read piece, t.count, full, one),
              subst (λ (l : List ℕ). RepliedTo a l false (disk host) (printed host)) (sym front) (replied_to a t.read false host all),
            );
            moments = moments_longer a t.read piece to.0 host all;
          }

      pub failed : (e : Ending) (f : Fault) (new : H) → taken + length piece ≤ input_limit → EndedAt disk printed clock might start a (t.read ++ piece) false f new → IsEndingOf e f → Ran disk printed clock might a e input left' start new
      failed e f new fits ended is =
          let to = takes.told t.rest t.is_left in
          let few : length (t.read ++ piece) ≤ input_limit = omega (arith, length-append t.read piece, t.count, fits) in
          record {
            read = t.read ++ piece;
            rest = to.0;
            parts = t.parts ∙ ap (λ (l : List ℕ). t.read ++ l) to.2 ∙ sym (append_assoc t.read piece to.0);
            is_left = to.1;
            ends = ends_by a (t.read ++ piece) to.0 false f new ended (λ no'. absurd (cc)) few e is;
            moments = moments_ended a (t.read ++ piece) to.0 false f new ended (λ no'. absurd (cc)) few;
          }

      pub taken_more : (engine : MachineState → Type 0) (line' : LineSoFar) (block' : Option Progress) (new : H) → TakesBytes disk printed clock might start engine a (t.read ++ piece) line' block' new → Taken engine a input (taken + length piece) left' line' block' new
      taken_more engine line' block' new bytes =
          let to = takes.told t.rest t.is_left in
          record {
            read = t.read ++ piece;
            rest = to.0;
            parts = t.parts ∙ ap (λ (l : List ℕ). t.read ++ l) to.2 ∙ sym (append_assoc t.read piece to.0);
            is_left = to.1;
            count = omega (arith, length-append t.read piece, t.count);
            bytes = bytes;
          }
