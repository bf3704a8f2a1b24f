-- Bytes between the image and the caller's rooms: no proof needs it, and it holds of what the code does.
use Rattle.std.specs.Prelude.{ℕ, ◌≡◌, List, length}
use Rattle.std.proofs.Common.{ap, ap₂, ◌∙◌}
use Rattle.octets.specs.Part.{part}
use Rattle.octets.specs.Put.{put}
use Rattle.octets.specs.Xor.{◌⊻◌}
use Rattle.geometry.specs.declared.Geometry.{Geometry}
use Rattle.meaning.specs.declared.Span.{Span}
use Rattle.meaning.specs.Acts.{span_at, blocks_of}
use Rattle.meaning.specs.Allowed.{Filled}

-- bytes handed over from a place that is another's name
pub handed_by : (s room t : List ℕ) (a b n r : ℕ) → a ≡ b → (t ≡ put room 0 (part s a n)) × (r ≡ length (part s a n))
    → (t ≡ put room 0 (part s b n)) × (r ≡ length (part s b n))
handed_by s room t a b n r e h =
    (h.0 ∙ ap (λ (k : ℕ). put room 0 (part s k n)) e, h.1 ∙ ap (λ (k : ℕ). length (part s k n)) e)

-- XPWRITE's bytes
pub xored_by : (s : List ℕ) (g : Geometry) (x : Span) (sent t : List ℕ) (at : ℕ) → Filled g x sent → at ≡ span_at g x
    → t ≡ put s at (part s at (length sent) ⊻ sent) → t ≡ put s (span_at g x) (blocks_of s g x ⊻ sent)
xored_by s g x sent t at f e h = h ∙ ap₂ (λ (a n : ℕ). put s a (part s a n ⊻ sent)) e f
