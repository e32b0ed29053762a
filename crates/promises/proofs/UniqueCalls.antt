-- Two results that a promise of a function over lent outputs, for C or of the outline allows are equal: what comes back, and each lent
-- buffer afterwards.
-- Assumes nothing.
use Prim.Native.Nat.{ℕ}
use mathlib.Core.Path.{◌≡◌, sym, ◌∙◌}
use mathlib.Core.List.{List}
use Rattle.image.specs.declared.Header.{Header}
use Rattle.channel.specs.declared.Reading.{Reading}
use Rattle.channel.specs.Promise.{Outputs, Call, ReadChannelPromise}
use Rattle.c_channel.specs.ReadChannel as channel_c
use Rattle.c_image.specs.ImageCalls.{ReadHeaderPromise, FindPartPromise, FindPartsPromise}
use Rattle.c_stereo.specs.StateCalls.{FreshStatePromise, ReportMissingPromise}
use Rattle.c_stereo.specs.ReadStereo as stereo_c
use Rattle.c_writer.specs.WriteStereo as write_c
use Rattle.c_version.specs.Version.{version, VersionPromise}
use Rattle.image_outline.specs.Outline.{OutlinePromise}

-- two values that both are a third are equal
pub same : {A : Type 0} {x y : A} (z : A) → x ≡ z → y ≡ z → x ≡ y
same z p q = p ∙ sym q

-- a number, and one lent buffer
one-call : (n : ℕ) (after : List ℕ) (r r' : ℕ) (told told' : List ℕ) → (r ≡ n) × (told ≡ after) → (r' ≡ n) × (told' ≡ after)
    → (r ≡ r') × (told ≡ told')
one-call n after r r' told told' p q = (same n p.0 q.0, same after p.1 q.1)

module _ (state : List ℕ) (r r' : ℕ) (after after' : List ℕ) where
  pub one-fresh-state : FreshStatePromise state r after → FreshStatePromise state r' after' → (r ≡ r') × (after ≡ after')
  one-fresh-state = one-call _ _ r r' after after'

  pub one-missing : ReportMissingPromise state r after → ReportMissingPromise state r' after' → (r ≡ r') × (after ≡ after')
  one-missing = one-call _ _ r r' after after'

module _ (image answer : List ℕ) (r r' : ℕ) (after after' : List ℕ) where
  pub one-image-header : ReadHeaderPromise image answer r after → ReadHeaderPromise image answer r' after' → (r ≡ r') × (after ≡ after')
  one-image-header = one-call _ _ r r' after after'

  pub one-image-part : (k : ℕ) → FindPartPromise image k answer r after → FindPartPromise image k answer r' after'
      → (r ≡ r') × (after ≡ after')
  one-image-part k = one-call _ _ r r' after after'

  pub one-image-parts : FindPartsPromise image answer r after → FindPartsPromise image answer r' after' → (r ≡ r') × (after ≡ after')
  one-image-parts = one-call _ _ r r' after after'

-- the stereo reader: what comes back, the state and the answer
pub one-stereo : (c : stereo_c.Call) (r r' : ℕ) (s s' a a' : List ℕ) → stereo_c.ReadStereoPromise c r s a
    → stereo_c.ReadStereoPromise c r' s' a' → (r ≡ r') × (s ≡ s') × (a ≡ a')
one-stereo c r r' s s' a a' p q = (same _ p.0 q.0, same _ p.1.0 q.1.0, same _ p.1.1 q.1.1)

-- the stereo writer: the number, the state, the output and the answer
pub one_written : (c : write_c.Call) (r r' : ℕ) (s s' o o' a a' : List ℕ) → write_c.WriteStereoPromise c r s o a
    → write_c.WriteStereoPromise c r' s' o' a' → (r ≡ r') × (s ≡ s') × (o ≡ o') × (a ≡ a')
one_written c r r' s s' o o' a a' p q = (
  same _ p.0 q.0,
  same _ p.1.0 q.1.0,
  same _ p.1.1.0 q.1.1.0,
  same _ p.1.1.1 q.1.1.1,
)

-- the channel reader: the answer, and the three outputs
pub one-channel : (c : Call) (r r' : Reading) (o o' : Outputs) → ReadChannelPromise c r o → ReadChannelPromise c r' o' → (r ≡ r') × (o ≡ o')
one-channel c r r' o o' p q = (same _ p.0 q.0, same _ p.1 q.1)

-- and for C what comes back, the three outputs and the answer's bytes
pub one-channel-call : (c : channel_c.Call) (r r' : ℕ) (o o' : Outputs) (a a' : List ℕ) → channel_c.ReadChannelPromise c r o a
    → channel_c.ReadChannelPromise c r' o' a' → (r ≡ r') × (o ≡ o') × (a ≡ a')
one-channel-call c r r' o o' a a' p q = (same _ p.0 q.0, same _ p.1.0 q.1.0, same _ p.1.1 q.1.1)

-- the outline: the header, and the rows
pub one_outline : (image rows : List ℕ) (r r' : Header) (after after' : List ℕ) → OutlinePromise image rows r after
    → OutlinePromise image rows r' after' → (r ≡ r') × (after ≡ after')
one_outline image rows r r' after after' p q = (same _ p.0 q.0, same _ p.1 q.1)

-- the version
pub one-version : (r r' : ℕ) → VersionPromise r → VersionPromise r' → r ≡ r'
one-version r r' = same version
