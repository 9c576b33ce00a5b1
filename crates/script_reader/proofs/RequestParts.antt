-- A script has one list of requests, which goes on as the script does.
use Rattle.std.proofs.Common.{◌≡◌, ℕ, Bool, true, false, List, [], ◌∷◌, ◌++◌, length, map, Option, Some, None, Result, refl, sym, ap, subst, ◌∙◌, append_assoc, length-append, arith, if◌then◌else◌}
use Rattle.std.specs.List.{flat_map, AllByRecursion}
use Rattle.std.proofs.lemmas.List.{append-nil, map-append}
use Rattle.dl_base.specs.Ontology.{Terminology}
use Rattle.axiom_reader.specs.Block.{Line, BlockGives}
use Rattle.axiom_reader.specs.declared.block.BlockError.{BlockError}
use Rattle.script_reader.specs.Lines.{given, last_line}
use Rattle.script_reader.specs.Requests.{Asks, SaysNothing, OpensBlock, EndsBlock, Token, Is, Finished, Part, Skipped, Single, Block, End, spelled, asked, ClosesBlock, IsBlock, IsPart, Begun, begun_lines, IsOpenBlock, HoldsRequests, IsScript, AreRequests}
use Rattle.script_reader.specs.declared.request.Request.{Request}
use Rattle.script_reader.specs.declared.request.Request.TheVariants as request
use Rattle.script_reader.proofs.RequestOnce.{asks_once, nothing_or_asks, opens_or_asks, nothing_or_opens}
use Rattle.script_reader.proofs.LineLemmas.{ended_from, open_from, ended-append, cut_ended, cut_open}

-- ---- the lines of a block

abbrev GoesOn : List Line → Type 0
GoesOn lines = AllByRecursion (λ line. EndsBlock line → ⊥) lines

closing_line : (last : Token) (whole : Bool) (line : Line) → last ≡ Is line → ClosesBlock last whole → EndsBlock line
closing_line (Is l) true line e closes = let same : l ≡ line = cc in subst EndsBlock same closes
closing_line (Is l) false line e closes = absurd closes
closing_line Finished whole line e closes = absurd cc

closed_once : (last : Token) (whole whole' : Bool) → ClosesBlock last whole → ClosesBlock last whole' → whole ≡ whole'
closed_once (Is l) true true x y = refl
closed_once (Is l) true false x y = absurd y
closed_once (Is l) false whole' x y = absurd x
closed_once Finished true whole' x y = absurd x
closed_once Finished false true x y = absurd y
closed_once Finished false false x y = refl

-- two ways of reading the lines of one block
record OneBlock (inside inside' : List Line) (last last' : Token) (xs ys : List Token) : Type 0 where
  inside_is : inside ≡ inside'
  last_is : last ≡ last'
  behind : xs ≡ ys

one_more : (a b : Line) (inside inside' : List Line) (last last' : Token) (xs ys : List Token) → a ≡ b → OneBlock inside inside' last last' xs ys → OneBlock (a ∷ inside) (b ∷ inside') last last' xs ys
one_more a b inside inside' last last' xs ys e o = record { inside_is = ap (λ (l : Line). l ∷ inside) e ∙ ap (λ (l : List Line). b ∷ l) o.inside_is; last_is = o.last_is; behind = o.behind }

one_block : (inside inside' : List Line) (last last' : Token) (whole whole' : Bool) (xs ys : List Token) → GoesOn inside → GoesOn inside' → ClosesBlock last whole → ClosesBlock last' whole'
    → map Is inside ++ last ∷ xs ≡ map Is inside' ++ last' ∷ ys → OneBlock inside inside' last last' xs ys
one_block [] [] last last' whole whole' xs ys g g' c c' e = record { inside_is = refl; last_is = cc; behind = cc }
one_block [] (l ∷ inside') last last' whole whole' xs ys g g' c c' e = absurd (g'.0 (closing_line last whole l (let same : last ≡ Is l = cc in same) c))
one_block (l ∷ inside) [] last last' whole whole' xs ys g g' c c' e = absurd (g.0 (closing_line last' whole' l (let same : last' ≡ Is l = cc in same) c'))
one_block (a ∷ inside) (b ∷ inside') last last' whole whole' xs ys g g' c c' e =
    let heads : a ≡ b = cc in
    let tails : map Is inside ++ last ∷ xs ≡ map Is inside' ++ last' ∷ ys = cc in
    one_more a b inside inside' last last' xs ys heads (one_block inside inside' last last' whole whole' xs ys g.1 g'.1 c c' tails)

-- a block that ended is no block that is begun
never_closed : (inside inside' : List Line) (last : Token) (whole : Bool) (xs : List Token) → GoesOn inside' → ClosesBlock last whole → map Is inside ++ last ∷ xs ≡ map Is inside' → ⊥
never_closed [] [] last whole xs g c e = cc
never_closed [] (l ∷ inside') last whole xs g c e = g.0 (closing_line last whole l (let same : last ≡ Is l = cc in same) c)
never_closed (a ∷ inside) [] last whole xs g c e = cc
never_closed (a ∷ inside) (b ∷ inside') last whole xs g c e =
    let tails : map Is inside ++ last ∷ xs ≡ map Is inside' = cc in
    never_closed inside inside' last whole xs g.1 c tails

-- ---- parts

same_line : (a b : Line) (xs ys : List Token) → Is a ∷ xs ≡ Is b ∷ ys → a ≡ b
same_line a b xs ys e = cc

same_behind : (a b : Token) (xs ys : List Token) → a ∷ xs ≡ b ∷ ys → xs ≡ ys
same_behind a b xs ys e = cc

-- the lines of pieces, and what stands behind them
abbrev line_token : List ℕ → Token
line_token piece = Is (given piece)

abbrev end_tokens : Bool → List ℕ → List Token
end_tokens ended rest = if ended then map line_token (last_line rest) ++ Finished ∷ [] else []

module _ (block_once : (lines : List Line) (whole : Bool) (r s : Result Terminology BlockError) → BlockGives lines whole r → BlockGives lines whole s → r ≡ s) where
  blocks_same : (opening opening' : Line) (inside inside' : List Line) (last last' : Token) (r r' : Result Terminology BlockError) (xs ys : List Token)
      → IsBlock opening inside last r → IsBlock opening' inside' last' r' → (map Is inside ++ last ∷ []) ++ xs ≡ (map Is inside' ++ last' ∷ []) ++ ys → (r ≡ r') × (xs ≡ ys)
  blocks_same opening opening' inside inside' last last' r r' xs ys x y e =
      let flat : map Is inside ++ last ∷ xs ≡ map Is inside' ++ last' ∷ ys = sym (append_assoc (map Is inside) (last ∷ []) xs) ∙ e ∙ append_assoc (map Is inside') (last' ∷ []) ys in
      let o = one_block inside inside' last last' x.whole y.whole xs ys x.goes_on y.goes_on x.ends y.ends flat in
      let whole : y.whole ≡ x.whole = closed_once last y.whole x.whole (subst (λ (t : Token). ClosesBlock t y.whole) (sym o.last_is) y.ends) x.ends in
      let gives : BlockGives inside x.whole r' = subst (λ (l : List Line). BlockGives l x.whole r') (sym o.inside_is) (subst (λ (w : Bool). BlockGives inside' w r') whole y.gives) in
      (block_once inside x.whole r r' x.gives gives, o.behind)

  same_part : (p p' : Part) (xs ys : List Token) → IsPart p → IsPart p' → spelled p ++ xs ≡ spelled p' ++ ys → (asked p ≡ asked p') × (xs ≡ ys)
  same_part (Skipped a) (Skipped b) xs ys x y e = (refl, same_behind (Is a) (Is b) xs ys e)
  same_part (Skipped a) (Single b q) xs ys x y e = absurd (nothing_or_asks b q (subst SaysNothing (same_line a b xs ys e) x) y)
  same_part (Skipped a) (Block b inside last r) xs ys x y e = absurd (nothing_or_opens b (subst SaysNothing (same_line a b xs _ e) x) y.opens)
  same_part (Skipped a) End xs ys x y e = absurd cc
  same_part (Single a q) (Skipped b) xs ys x y e = absurd (nothing_or_asks a q (subst SaysNothing (sym (same_line a b xs ys e)) y) x)
  same_part (Single a q) (Single b r) xs ys x y e = (ap (λ (t : Request). t ∷ []) (asks_once b q r (subst (λ (l : Line). Asks l q) (same_line a b xs ys e) x) y), same_behind (Is a) (Is b) xs ys e)
  same_part (Single a q) (Block b inside last r) xs ys x y e = absurd (opens_or_asks a q (subst OpensBlock (sym (same_line a b xs _ e)) y.opens) x)
  same_part (Single a q) End xs ys x y e = absurd cc
  same_part (Block a inside last r) (Skipped b) xs ys x y e = absurd (nothing_or_opens b y (subst OpensBlock (same_line a b _ ys e) x.opens))
  same_part (Block a inside last r) (Single b q) xs ys x y e = absurd (opens_or_asks b q (subst OpensBlock (same_line a b _ ys e) x.opens) y)
  same_part (Block a inside last r) (Block b inside' last' r') xs ys x y e =
      let s = blocks_same a b inside inside' last last' r r' xs ys x y (same_behind (Is a) (Is b) _ _ e) in
      (ap (λ (t : Result Terminology BlockError). request.Block t ∷ []) s.0, s.1)
  same_part (Block a inside last r) End xs ys x y e = absurd cc
  same_part End (Skipped b) xs ys x y e = absurd cc
  same_part End (Single b q) xs ys x y e = absurd cc
  same_part End (Block b inside last r) xs ys x y e = absurd cc
  same_part End End xs ys x y e = (refl, same_behind Finished Finished xs ys e)

  never_begun : (b : Option Begun) (p : Part) (xs : List Token) → IsOpenBlock b → IsPart p → spelled p ++ xs ≡ begun_lines b → ⊥
  never_begun None (Skipped a) xs is x e = cc
  never_begun None (Single a q) xs is x e = cc
  never_begun None (Block a inside last r) xs is x e = cc
  never_begun None End xs is x e = cc
  never_begun (Some b) (Skipped a) xs is x e = nothing_or_opens b.opening (subst SaysNothing (same_line a b.opening xs (map Is b.inside) e) x) is.0
  never_begun (Some b) (Single a q) xs is x e = opens_or_asks a q (subst OpensBlock (sym (same_line a b.opening xs (map Is b.inside) e)) is.0) x
  never_begun (Some b) (Block a inside last r) xs is x e =
      never_closed inside b.inside last x.whole xs is.1 x.ends (sym (append_assoc (map Is inside) (last ∷ []) xs) ∙ same_behind (Is a) (Is b.opening) _ (map Is b.inside) e)
  never_begun (Some b) End xs is x e = cc

  -- ---- all parts

  fronts : (parts parts' : List Part) (b : Option Begun) (more : List Token) → AllByRecursion IsPart parts → AllByRecursion IsPart parts' → IsOpenBlock b → flat_map spelled parts ++ more ≡ flat_map spelled parts' ++ begun_lines b
      → (later : List Request) × (flat_map asked parts' ≡ flat_map asked parts ++ later)
  fronts [] parts' b more each each' open_is e = (flat_map asked parts', refl)
  fronts (p ∷ ps) [] b more each each' open_is e = absurd (never_begun b p (flat_map spelled ps ++ more) open_is each.0 (sym (append_assoc (spelled p) (flat_map spelled ps) more) ∙ e))
  fronts (p ∷ ps) (p' ∷ ps') b more each each' open_is e =
      let flat : spelled p ++ (flat_map spelled ps ++ more) ≡ spelled p' ++ (flat_map spelled ps' ++ begun_lines b) =
      sym (append_assoc (spelled p) (flat_map spelled ps) more) ∙ e ∙ append_assoc (spelled p') (flat_map spelled ps') (begun_lines b) in
      let s = same_part p p' (flat_map spelled ps ++ more) (flat_map spelled ps' ++ begun_lines b) each.0 each'.0 flat in
      let rest = fronts ps ps' b more each.1 each'.1 open_is s.1 in (
        rest.0,
        ap (λ (l : List Request). l ++ flat_map asked ps') (sym s.0) ∙ ap (λ (l : List Request). asked p ++ l) rest.1 ∙ sym (append_assoc (asked p) (flat_map asked ps) rest.0),
      )

  held_front : (tokens those more : List Token) (requests others : List Request) (b b' : Option Begun) → those ≡ tokens ++ more → HoldsRequests tokens requests b → HoldsRequests those others b' → (later : List Request) × (others ≡ requests ++ later)
  held_front tokens those more requests others b b' goes h h' =
      let joined : flat_map spelled h.parts ++ (begun_lines b ++ more) ≡ flat_map spelled h'.parts ++ begun_lines b' =
      sym (append_assoc (flat_map spelled h.parts) (begun_lines b) more) ∙ ap (λ (l : List Token). l ++ more) (sym h.spells) ∙ sym goes ∙ h'.spells in
      let f = fronts h.parts h'.parts b' (begun_lines b ++ more) h.each h'.each h'.block joined in
      (f.0, h'.are ∙ f.1 ∙ ap (λ (l : List Request). l ++ f.0) (sym h.are))

  -- ---- the bytes

  script_is : (bytes : List ℕ) (ended : Bool) (tokens : List Token) → IsScript bytes ended tokens → tokens ≡ map line_token (ended_from [] bytes) ++ end_tokens ended (open_from [] bytes)
  script_is bytes ended tokens s =
      let pieces : s.pieces ≡ ended_from [] bytes = sym (ap (ended_from []) s.cut.joined ∙ cut_ended s.pieces s.rest s.cut.none_inside s.cut.none_behind) in
      let rest : s.rest ≡ open_from [] bytes = sym (ap (open_from []) s.cut.joined ∙ cut_open s.pieces s.rest s.cut.none_inside s.cut.none_behind) in
      s.are ∙ ap (λ (l : List (List ℕ)). map line_token l ++ end_tokens ended s.rest) pieces ∙ ap (λ (l : List ℕ). map line_token (ended_from [] bytes) ++ end_tokens ended l) rest

  no_longer : (xs a b : List Request) → xs ≡ (xs ++ a) ++ b → a ≡ []
  no_longer xs [] b e = refl
  no_longer xs (x ∷ a) b e = absurd (omega (arith, ap (λ (l : List Request). length l) e, length-append (xs ++ x ∷ a) b, length-append xs (x ∷ a)))

  pub one_list : (bytes : List ℕ) (ended : Bool) (requests others : List Request) → AreRequests bytes ended requests → AreRequests bytes ended others → requests ≡ others
  one_list bytes ended requests others a b =
      let same : b.tokens ≡ a.tokens = script_is bytes ended b.tokens b.script ∙ sym (script_is bytes ended a.tokens a.script) in
      let x = held_front a.tokens b.tokens [] requests others a.begun b.begun (same ∙ sym (append-nil a.tokens)) a.holds b.holds in
      let y = held_front b.tokens a.tokens [] others requests b.begun a.begun (sym same ∙ sym (append-nil b.tokens)) b.holds a.holds in
      let none : x.0 ≡ [] = no_longer requests x.0 y.0 (y.1 ∙ ap (λ (l : List Request). l ++ y.0) x.1) in
      sym (x.1 ∙ ap (λ (l : List Request). requests ++ l) none ∙ append-nil requests)

  pub go_on : (bytes more : List ℕ) (ended : Bool) (requests others : List Request) → AreRequests bytes false requests → AreRequests (bytes ++ more) ended others → (later : List Request) × (others ≡ requests ++ later)
  go_on bytes more ended requests others a b =
      let these : a.tokens ≡ map line_token (ended_from [] bytes) = script_is bytes false a.tokens a.script ∙ append-nil (map line_token (ended_from [] bytes)) in
      let behind = map line_token (ended_from (open_from [] bytes) more) in
      let end = end_tokens ended (open_from [] (bytes ++ more)) in
      let those : b.tokens ≡ a.tokens ++ (behind ++ end) =
      script_is (bytes ++ more) ended b.tokens b.script
      ∙ ap (λ (l : List (List ℕ)). map line_token l ++ end) (ended-append [] bytes more)
      ∙ ap (λ (l : List Token). l ++ end) (map-append line_token (ended_from [] bytes) (ended_from (open_from [] bytes) more))
      ∙ append_assoc (map line_token (ended_from [] bytes)) behind end
      ∙ ap (λ (l : List Token). l ++ (behind ++ end)) (sym these) in
      held_front a.tokens b.tokens (behind ++ end) requests others a.begun b.begun those a.holds b.holds
