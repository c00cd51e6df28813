-- A file of which no call speaks stays, whatever a crash leaves.
use Rattle.std.proofs.Common.{ℕ, ◌≡◌, List, [], ◌∷◌, Some, sym, ◌∙◌}
use Rattle.cache_images.proofs.Frames.{MissAll, kept_firmly, step_kept}
use Rattle.cache_images.proofs.Good.{patch, patch_self, patched}
use Rattle.cache_images.proofs.Shown.{read_image}
use Rattle.cache_images.specs.Leaves.{IsFirmly}
use Rattle.disk_base.specs.Images.{Image, IsImage}
use Rattle.disk_base.specs.Names.{Names, after, read_name}
use Rattle.disk_base.specs.Runs.{AllAlong}
use Rattle.disk_base.specs.declared.steps.DiskStep.{DiskStep}

pub held_along : (xs : List DiskStep) (s : Names) (m bytes : List ℕ) → MissAll xs m → IsFirmly (s m) bytes
    → AllAlong (λ i. i m ≡ Some bytes) xs s
held_along [] s m bytes h firm = λ i im. firm (i m) (im m)
held_along (x ∷ xs) s m bytes h firm = (
  λ i im. firm (i m) (im m),
  held_along xs (after x s) m bytes h.1 (kept_firmly (after x s m) (s m) bytes (step_kept x s m h.0) firm),
)

-- each image has these bytes under the name
pub firm_images : (s : Names) (m bytes : List ℕ) → ((i : Image) → IsImage s i → i m ≡ Some bytes) → IsFirmly (s m) bytes
firm_images s m bytes all o h =
    let i : Image = patch m o (read_name s) in
    sym (patch_self m o (read_name s)) ∙ all i (patched s (read_name s) m o (read_image s) h)
