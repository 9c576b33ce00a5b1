-- The bytes of a number that was read from them.
use Rattle.std.proofs.Common.{◌≡◌, ◌<◌, ◌≤◌, ℕ, zero, suc, List, [], ◌∷◌, length, get_or, take, refl, arith}
use Rattle.std.proofs.lemmas.Nat.{be_bytes_4, be_bytes_8}
use Rattle.byteorder.specs.Endian.{big_bytes, big_number}

abbrev AreBytes : List ℕ → Type 0
AreBytes xs = (i : ℕ) → get_or xs i 0 < 256

fits-take : (k : ℕ) (xs : List ℕ) → AreBytes xs → AreBytes (take k xs)
fits-take zero xs bytes i = omega arith
fits-take (suc k) [] bytes i = omega arith
fits-take (suc k) (x ∷ xs) bytes zero = bytes 0
fits-take (suc k) (x ∷ xs) bytes (suc i) = fits-take k xs (λ j. bytes (suc j)) i

pub back_4 : (xs : List ℕ) (n : ℕ) → 4 ≤ length xs → AreBytes xs → n ≡ big_number 4 xs → big_bytes 4 n ≡ take 4 xs
back_4 (a ∷ b ∷ c ∷ d ∷ xs) n long bytes is = be_bytes_4 (a ∷ b ∷ c ∷ d ∷ []) n refl (fits-take 4 (a ∷ b ∷ c ∷ d ∷ xs) bytes) (omega (arith, is))
back_4 [] n long bytes is = absurd (omega arith)
back_4 (a ∷ []) n long bytes is = absurd (omega arith)
back_4 (a ∷ b ∷ []) n long bytes is = absurd (omega arith)
back_4 (a ∷ b ∷ c ∷ []) n long bytes is = absurd (omega arith)

pub back_8 : (xs : List ℕ) (n : ℕ) → 8 ≤ length xs → AreBytes xs → n ≡ big_number 8 xs → big_bytes 8 n ≡ take 8 xs
back_8 (a ∷ b ∷ c ∷ d ∷ e ∷ f ∷ g ∷ h ∷ xs) n long bytes is = be_bytes_8 (a ∷ b ∷ c ∷ d ∷ e ∷ f ∷ g ∷ h ∷ []) n refl (fits-take 8 (a ∷ b ∷ c ∷ d ∷ e ∷ f ∷ g ∷ h ∷ xs) bytes) (omega (arith, is))
back_8 [] n long bytes is = absurd (omega arith)
back_8 (a ∷ []) n long bytes is = absurd (omega arith)
back_8 (a ∷ b ∷ []) n long bytes is = absurd (omega arith)
back_8 (a ∷ b ∷ c ∷ []) n long bytes is = absurd (omega arith)
back_8 (a ∷ b ∷ c ∷ d ∷ []) n long bytes is = absurd (omega arith)
back_8 (a ∷ b ∷ c ∷ d ∷ e ∷ []) n long bytes is = absurd (omega arith)
back_8 (a ∷ b ∷ c ∷ d ∷ e ∷ f ∷ []) n long bytes is = absurd (omega arith)
back_8 (a ∷ b ∷ c ∷ d ∷ e ∷ f ∷ g ∷ []) n long bytes is = absurd (omega arith)
