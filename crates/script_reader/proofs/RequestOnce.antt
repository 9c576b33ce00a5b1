-- A line by itself is one request, or says nothing, or opens a block.
use Rattle.std.proofs.Common.{◌≡◌, ℕ, ◌+◌, List, Some, None, refl, sym, ap, subst, ◌∙◌}
use Rattle.grammar.proofs.FaultPlaces.{fault_once}
use Rattle.dl_base.specs.Query.{Question, IsQuery}
use Rattle.axiom_reader.specs.Block.{Line}
use Rattle.cq_reader.specs.QueryLimits.{IsSmall, IsTooLarge, IsFirstUnbound}
use Rattle.reply_text.specs.declared.reply.Refusal.TheVariants as refusal
use Rattle.script_reader.specs.Commands.{AsksCommand, HasQuery, script_line, command_of, query_of}
use Rattle.script_reader.specs.Requests.{IsAlone, Asks, SaysNothing, OpensBlock}
use Rattle.script_reader.specs.declared.command_tree.CommandTree.{CommandTree}
use Rattle.script_reader.specs.declared.command_tree.CommandTree.TheVariants as tree
use Rattle.script_reader.specs.declared.command.Command.{Command}
use Rattle.script_reader.specs.declared.request.Request.{Request}
use Rattle.script_reader.specs.declared.request.Request.TheVariants as request
use Rattle.cq_reader.proofs.TermCounts.{small_not_too_large}
use Rattle.script_reader.proofs.CommandQueries.{line_once}
use Rattle.script_reader.proofs.QuerySafety.{not_large, not_unsafe, unbound_once}

-- ---- requests

query_once : (text : List ℕ) (q r : Question) → HasQuery text q → HasQuery text r → q ≡ r
query_once text q r a b =
    let same : Some q ≡ Some r = sym a.is ∙ ap query_of (line_once text a.said b.said a.says b.says) ∙ b.is in
    cc

command_once : (text : List ℕ) (c d : Command) → AsksCommand text c → AsksCommand text d → c ≡ d
command_once text c d a b = a.is ∙ ap command_of (line_once text a.said b.said a.says b.says) ∙ sym b.is

fits : (text : List ℕ) (c : Command) (q : Question) → AsksCommand text c → HasQuery text q → IsQuery q
fits text c q a b = a.fits q (ap query_of (line_once text a.said b.said a.says b.says) ∙ b.is)

pub asks_once : (line : Line) (q r : Request) → Asks line q → Asks line r → q ≡ r
asks_once line q r Asks.too_long Asks.too_long = refl
asks_once line q r (Asks.plain {text} {c} a x) (Asks.plain {c = d} b y) = ap request.Plain (command_once text c d a b)
asks_once line q r (Asks.plain {text} {c} a x) (Asks.no_command place f) = absurd (f.outside (a.said, a.says))
asks_once line q r (Asks.plain {text} {c} a x) (Asks.too_large p h large) = absurd (not_large p (fits text c p a h) large)
asks_once line q r (Asks.plain {text} {c} a x) (Asks.unsafe {v = v} p h small first) = absurd (not_unsafe p v (fits text c p a h) first)
asks_once line q r (Asks.no_command place f) (Asks.plain b y) = absurd (f.outside (b.said, b.says))
asks_once line q r (Asks.no_command {text} place f) (Asks.no_command at g) = ap (λ (n : ℕ). request.Bad (refusal.Syntax (n + 1))) (fault_once script_line text place at f g)
asks_once line q r (Asks.no_command place f) (Asks.too_large p h large) = absurd (f.outside (h.said, h.says))
asks_once line q r (Asks.no_command place f) (Asks.unsafe p h small first) = absurd (f.outside (h.said, h.says))
asks_once line q r (Asks.too_large p h large) (Asks.plain {text = text} {c = d} b y) = absurd (not_large p (fits text d p b h) large)
asks_once line q r (Asks.too_large p h large) (Asks.no_command at g) = absurd (g.outside (h.said, h.says))
asks_once line q r (Asks.too_large p h large) (Asks.too_large p' h' large') = refl
asks_once line q r (Asks.too_large {text} p h large) (Asks.unsafe p' h' small first) = absurd (small_not_too_large p (subst IsSmall (query_once text p' p h' h) small) large)
asks_once line q r (Asks.unsafe {text} {v} p h small first) (Asks.plain {c = d} b y) = absurd (not_unsafe p v (fits text d p b h) first)
asks_once line q r (Asks.unsafe p h small first) (Asks.no_command at g) = absurd (g.outside (h.said, h.says))
asks_once line q r (Asks.unsafe {text} p h small first) (Asks.too_large p' h' large) = absurd (small_not_too_large p (small) (subst IsTooLarge (query_once text p' p h' h) large))
asks_once line q r (Asks.unsafe {text} {v} p h small first) (Asks.unsafe {v = w} p' h' small' first') =
    ap (λ (n : List ℕ). request.Bad (refusal.UnsafeVariable n)) (unbound_once p v w first (subst (λ (x : Question). IsFirstUnbound x w) (query_once text p' p h' h) first'))

-- what says no request of its own is none
plain_tree : (text : List ℕ) (c : Command) (t : CommandTree) → AsksCommand text c → IsAlone c → script_line text t → (IsAlone (command_of t) → ⊥) → ⊥
plain_tree text c t a alone says other =
    other (subst IsAlone (a.is ∙ ap command_of (line_once text a.said t a.says says)) alone)

no_query : (text : List ℕ) (q : Question) (t : CommandTree) → HasQuery text q → script_line text t → query_of t ≡ None → ⊥
no_query text q t h says none =
    let same : Some q ≡ None = sym h.is ∙ ap query_of (line_once text h.said t h.says says) ∙ none in
    cc

not_asked : (line : Line) (q : Request) (text : List ℕ) (t : CommandTree) → line ≡ Some text → Asks line q → script_line text t → (IsAlone (command_of t) → ⊥) → query_of t ≡ None → ⊥
not_asked line q text t e Asks.too_long says other none = absurd cc
not_asked line q text t e (Asks.plain {text = text'} {c} a x) says other none = plain_tree text' c t a x (let same : text ≡ text' = cc in subst (λ (l : List ℕ). script_line l t) same says) other
not_asked line q text t e (Asks.no_command {text = text'} place f) says other none = f.outside (t, (let same : text ≡ text' = cc in subst (λ (l : List ℕ). script_line l t) same says))
not_asked line q text t e (Asks.too_large {text = text'} p h large) says other none = no_query text' p t h (let same : text ≡ text' = cc in subst (λ (l : List ℕ). script_line l t) same says) none
not_asked line q text t e (Asks.unsafe {text = text'} p h small first) says other none = no_query text' p t h (let same : text ≡ text' = cc in subst (λ (l : List ℕ). script_line l t) same says) none

pub nothing_or_asks : (line : Line) (q : Request) → SaysNothing line → Asks line q → ⊥
nothing_or_asks None q says asks = says
nothing_or_asks (Some text) q says asks = not_asked (Some text) q text tree.Blank refl asks says (λ a. a) refl

pub opens_or_asks : (line : Line) (q : Request) → OpensBlock line → Asks line q → ⊥
opens_or_asks None q says asks = says
opens_or_asks (Some text) q says asks = not_asked (Some text) q text tree.Ontology refl asks says (λ a. a) refl

pub nothing_or_opens : (line : Line) → SaysNothing line → OpensBlock line → ⊥
nothing_or_opens None says opens = says
nothing_or_opens (Some text) says opens = let same : tree.Blank ≡ tree.Ontology = line_once text tree.Blank tree.Ontology says opens in cc
