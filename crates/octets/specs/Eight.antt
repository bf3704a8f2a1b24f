-- Eight parts of one list of bytes.
use Rattle.std.specs.Prelude.{◌≡◌, List, [], ◌∷◌, ℕ, ◌+◌, ◌≤◌, ◌<◌, length, get_or}
use Rattle.std.proofs.Common.{◌∙◌}
use Rattle.std.specs.Int.Bits.{bit_xor}
use Rattle.octets.specs.Part.{part, get_or_part, length_part}
use Rattle.octets.specs.Operands.{xor_all, get_or_xor_all, length_xor_all}

module _ (xs : List ℕ) (a b c d e f g h n : ℕ) where
  -- the n bytes from each of the eight indices on
  abbrev pub eight_parts : List (List ℕ)
  eight_parts = part xs a n ∷ part xs b n ∷ part xs c n ∷ part xs d n ∷ part xs e n ∷ part xs f n ∷ part xs g n ∷ part xs h n ∷ []

  -- xs has them
  pub record EightIn : Type 0 where
    pub in_a : a + n ≤ length xs
    pub in_b : b + n ≤ length xs
    pub in_c : c + n ≤ length xs
    pub in_d : d + n ≤ length xs
    pub in_e : e + n ≤ length xs
    pub in_f : f + n ≤ length xs
    pub in_g : g + n ≤ length xs
    pub in_h : h + n ≤ length xs

  pub eight_long : EightIn → length (xor_all eight_parts) ≡ n
  eight_long r = length_xor_all n _ _ (length_part xs a n r.in_a, (length_part xs b n r.in_b, (length_part xs c n r.in_c, (length_part xs d n r.in_d, (length_part xs e n r.in_e, (length_part xs f n r.in_f, (length_part xs g n r.in_g, (length_part xs h n r.in_h, tt))))))))

  -- byte i of their XOR
  pub eight_byte : (i : ℕ) → i < n → get_or (xor_all eight_parts) i 0 ≡ bit_xor (get_or xs (a + i) 0) (bit_xor (get_or xs (b + i) 0) (bit_xor (get_or xs (c + i) 0) (bit_xor (get_or xs (d + i) 0) (bit_xor (get_or xs (e + i) 0) (bit_xor (get_or xs (f + i) 0) (bit_xor (get_or xs (g + i) 0) (get_or xs (h + i) 0)))))))
  eight_byte i l =
      let own : (k : ℕ) → get_or (part xs k n) i 0 ≡ get_or xs (k + i) 0 = (λ k. get_or_part xs k n i l) in
      get_or_xor_all _ _ i ∙ rw (own a, own b, own c, own d, own e, own f, own g, own h)
