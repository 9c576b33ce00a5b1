-- What a stop leaves of areas whose bytes are all on the disk.
use Rattle.std.proofs.Common.{◌≡◌, ℕ, List, subst, arith}
use Rattle.std.proofs.lemmas.List.{ext_get_or}
use Rattle.host_io.specs.Disk.{Area, Disk, IsImage, IsSettled, at_rest}

-- an area at rest has no other image than its bytes
pub at_rest_image : (bytes image : List ℕ) → IsImage (at_rest bytes) image → image ≡ bytes
at_rest_image bytes image is = ext_get_or 0 image bytes (omega (arith, is.no_shorter, is.no_longer)) (λ i lt. is.outside i lt tt)

-- of a settled disk a stop leaves what a read gives
pub first_image : (disk : Disk) (image : List ℕ) → IsSettled disk → IsImage disk.first image → image ≡ disk.first.reads
first_image disk image is left = at_rest_image disk.first.reads image (subst (λ (a : Area). IsImage a image) is.first left)

pub second_image : (disk : Disk) (image : List ℕ) → IsSettled disk → IsImage disk.second image → image ≡ disk.second.reads
second_image disk image is left = at_rest_image disk.second.reads image (subst (λ (a : Area). IsImage a image) is.second left)
