-- How many bytes a command with a list sends.
use Rattle.std.specs.Prelude.{ℕ, ◌+◌, ◌*◌, ◌≤◌, Bool, true, false, cond, ◌≡◌, refl, eqb}
use Rattle.std.proofs.Common.{arith, sym, ap₂, ◌∙◌, eqb-true, ne_eqb}
use Rattle.command.specs.declared.Command.{Command}
use Rattle.command.specs.Command.{int_of, list_bytes}

-- the list is among the bytes that were sent
pub list_fits : (k : Command) (L n : ℕ) → n ≡ list_bytes k L → k.list ≤ n
unfolding list_bytes
list_fits k L n e = pick (eqb k.list 0) (int_of k) refl e
  where
    pick : (u v : Bool) → eqb k.list 0 ≡ u → n ≡ cond u 0 (cond v (k.list + k.count * L) k.list) → k.list ≤ n
    pick true v p e = let z : k.list ≡ 0 = eqb-true _ _ p in omega arith
    pick false true p e = omega arith
    pick false false p e = omega arith

-- what a command with a list of n sources sends, where with Int Data its length is c
pub sent_exact : (k : Command) (L n c l : ℕ) → l ≡ list_bytes k L → (k.list ≡ 0 → ⊥) → k.list ≡ 8 + 8 * n
    → (int_of k ≡ true → c ≡ k.count)
    → l ≡ 8 + 8 * n + cond (int_of k) (c * L) 0
unfolding list_bytes
sent_exact k L n c l e z h same = pick (int_of k) refl (e ∙ rw (ne_eqb k.list 0 z))
  where
    pick : (b : Bool) → int_of k ≡ b → l ≡ cond b (k.list + k.count * L) k.list → l ≡ 8 + 8 * n + cond b (c * L) 0
    pick false q e = omega arith
    pick true q e = e ∙ ap₂ (λ (u v : ℕ). u + v * L) h (sym (same q))
