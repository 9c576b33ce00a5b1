-- An input that is read piece by piece: how much a read takes, and a piece that is taken part by part.
use Rattle.std.proofs.Common.{◌≡◌, ◌≤◌, ◌-◌, ◌==◌, ℕ, List, [], ◌∷◌, ◌++◌, length, take, drop, true, sym, ◌∙◌, ap, arith, append_assoc, length-append, take-append-drop}
use Rattle.std.proofs.lemmas.List.{append-nil, length-take, length-drop, take_all}
use Rattle.std.proofs.lemmas.Bool.{eqb-true}

-- ---- a read into a buffer

-- a read takes no more than it has room for
pub within_room : (n m : ℕ) (buffer whole : List ℕ) → n ≤ length buffer → length buffer ≡ length (take m whole) → n ≤ m
within_room n m buffer whole le same = omega (arith, le, same, length-take m whole)

pub length-piece : (n : ℕ) (buffer : List ℕ) → n ≤ length buffer → length (take n buffer) ≡ n
length-piece n buffer le = omega (arith, length-take n buffer)

-- a buffer keeps its length where its front is read into
pub length-filled : (room : ℕ) (front whole : List ℕ) → length front ≡ length (take room whole) → room ≤ length whole → length (front ++ drop room whole) ≡ length whole
length-filled room front whole same le = omega (arith, same, le, length-append front (drop room whole), length-drop room whole, length-take room whole)

-- ---- a piece, part by part

pub split_more : (piece front rest : List ℕ) (count : ℕ) → piece ≡ front ++ rest → piece ≡ (front ++ take count rest) ++ take (length rest - count) (drop count rest)
split_more piece front rest count is =
    let more : take (length rest - count) (drop count rest) ≡ drop count rest = take_all (length rest - count) (drop count rest) (omega (arith, length-drop count rest)) in
    is ∙ ap (λ (l : List ℕ). front ++ l) (sym (ap (λ (l : List ℕ). take count rest ++ l) more ∙ take-append-drop count rest))
    ∙ sym (append_assoc front (take count rest) (take (length rest - count) (drop count rest)))

pub nothing_left : (piece front rest : List ℕ) → piece ≡ front ++ rest → (length rest == 0) ≡ true → front ≡ piece
nothing_left piece front [] is empty = sym (is ∙ append-nil front)
nothing_left piece front (b ∷ rest) is empty = absurd (omega (arith, eqb-true (length (b ∷ rest)) 0 empty))
