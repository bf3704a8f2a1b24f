-- How one piece is passed on, step by step: no proof needs it, and it holds of what the code does.
use Rattle.std.specs.Prelude.{ℕ, ◌+◌, ◌≤◌, ◌≡◌, refl, Bool, true, false, cond, List, [], length}
use Rattle.std.proofs.Common.{arith, sym, ap, ap₂, ◌∙◌}
use Rattle.octets.specs.Part.{part, length_part_le}
use Rattle.octets.specs.Put.{put, put_nil}
use Rattle.octets.specs.PutPut.{part_put_above}
use Rattle.octets.specs.Pieces.{part_ahead}
use Rattle.octets.specs.Xor.{◌⊻◌}
use Rattle.passes.specs.Pieces.{PieceLaws, reached, reached_none, reached_more, reached_all}
use Rattle.meaning.specs.Acts.{mixed, laid}
use Rattle.act.specs.declared.pass.Pass.{Pass}
use Rattle.act.specs.Pass.{laid_of, passed_of, laid_piece, Passable}
use Rattle.act.specs.PassTurns.{piece_of, laid_of_short, still_passable, laid_ahead}

-- ---- the result's bytes

module _ (mirror : Bool) (bytes old acc : List ℕ) where
  pub mix_xor : mirror ≡ false → acc ≡ bytes ⊻ old → acc ≡ mixed mirror bytes old
  mix_xor e q = rw e q

  pub mix_plain : mirror ≡ true → acc ≡ bytes → acc ≡ mixed mirror bytes old
  mix_plain e q = rw e q

-- ---- the data

module _ (s sent : List ℕ) (at : ℕ) (writes : Bool) where
  pub data_put : (t : List ℕ) → writes ≡ true → t ≡ put s at sent → t ≡ put s at (cond writes sent [])
  data_put t e te = rw e te

  pub data_skip : writes ≡ false → s ≡ put s at (cond writes sent [])
  data_skip e = rw e (sym (put_nil s at))

-- ---- the bytes laid down

module _ (s : List ℕ) (at : ℕ) (adds : Bool) (bytes t : List ℕ) where
  pub lay_xor : adds ≡ true → t ≡ put s at (part s at (length bytes) ⊻ bytes) → t ≡ put s at (laid adds (part s at (length bytes)) bytes)
  lay_xor e te = rw e te

  pub lay_plain : adds ≡ false → t ≡ put s at bytes → t ≡ put s at (laid adds (part s at (length bytes)) bytes)
  lay_plain e te = rw e te

-- ---- the piece

unfoldable pub passed_piece : List ℕ → List ℕ → Pass → ℕ → ℕ → List ℕ
passed_piece s sent p o k = put s (p.to + o) (laid_piece s sent p o k)

pub piece_in_turn : (s sent : List ℕ) (p : Pass) (o k : ℕ) (a t : List ℕ) → a ≡ mixed p.mirror (part sent o k) (part s (p.from + o) k) → length a ≡ k
    → t ≡ put s (p.to + o) (laid p.adds (part s (p.to + o) (length a)) a) → t ≡ passed_piece s sent p o k
unfolding passed_piece
piece_in_turn s sent p o k a t ae al te =
    te ∙ ap₂ (λ (n : ℕ) (x : List ℕ). put s (p.to + o) (laid p.adds (part s (p.to + o) n) x)) al ae

-- ---- the first o bytes are passed on: what `passes` says of any bytes that go piece by piece

module _ (s sent : List ℕ) (p : Pass) where
  laws : PieceLaws (λ (q : Pass). q.to) (λ q. length sent) (λ q t. Passable t sent q) (λ q t. laid_of t sent q)
  laws =
      record {
        inside = λ q t h. h.to_in;
        short = λ q t h. laid_of_short t sent q h;
        fits = λ q t ys h l. still_passable t sent q h ys;
        ahead = λ q t ys o k h. laid_ahead t sent q h ys o k;
      }

  unfoldable pub passed_to : ℕ → List ℕ
  passed_to o = put s p.to (part (laid_of s sent p) 0 o)

  pub passed_none : s ≡ passed_to 0
  unfolding passed_to reached
  passed_none = reached_none laws p s

  module _ (h : Passable s sent p) (o : ℕ) (t : List ℕ) (e : t ≡ passed_to o) where
    module _ (k : ℕ) (le : o + k ≤ length sent) where
      abbrev done : List ℕ
      done = part (laid_of s sent p) 0 o

      -- what is not yet passed on stands as it was
      from_kept : part t (p.from + o) k ≡ part s (p.from + o) k
      unfolding passed_to
      from_kept =
          ap (λ (w : List ℕ). part w (p.from + o) k) e
          ∙ part_ahead s p.to (length sent) o k done le (length_part_le (laid_of s sent p) 0 o) p.from h.apart

      to_kept : part t (p.to + o) k ≡ part s (p.to + o) k
      unfolding passed_to
      to_kept =
          ap (λ (w : List ℕ). part w (p.to + o) k) e
          ∙ part_put_above s p.to done (p.to + o) k (omega (arith, length_part_le (laid_of s sent p) 0 o))

      pub passed_more : (u : List ℕ) → u ≡ passed_piece t sent p o k → u ≡ passed_to (o + k)
      unfolding passed_to passed_piece reached
      passed_more u ue = reached_more laws p s h o t e p.to k (o + k) (laid_piece t sent p o k) u refl refl le (sym (piece_of t sent p o k le)) ue

    pub passed_all : length sent ≤ o → t ≡ passed_of s sent p
    unfolding passed_to passed_of reached
    passed_all le = reached_all laws p s h o t e p.to refl le
