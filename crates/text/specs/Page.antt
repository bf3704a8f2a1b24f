-- What a writer leaves of the page that it is lent.
use Rattle.std.specs.Prelude.{◌≡◌, ℕ, List, [], ◌∷◌, ◌++◌, ◌+◌, length, set}
use Rattle.std.proofs.Common.{◌∙◌, sym, ap, ap₂, arith, length-append, add-zero}
use Rattle.octets.specs.Put.{put, length_put, put_nil, set_put}
use Rattle.octets.specs.PutPut.{put_append}
use Rattle.text.specs.declared.Page.{Page}
use Rattle.text.specs.Room.{Wrote}

-- a page whose room has these bytes, and this index
abbrev pub paged : Page → List ℕ → ℕ → Page
paged p room at = record { out = record p.out { now = room }; at = at }

-- the page with xs written from its index on, which is then the one after xs
abbrev pub written_on : Page → List ℕ → Page
written_on p xs = paged p (put p.out.now p.at xs) (p.at + length xs)

-- xs is written on the page: what stands in its room, its index, and that it is the same room, as long
pub record Writes (xs : List ℕ) (before after : Page) : Type 0 where
  pub page : after ≡ written_on before xs
  pub room : after.out.ghost_name ≡ before.out.ghost_name
  pub long : length after.out.now ≡ length before.out.now
  pub wrote : Wrote xs before.at after.at before.out.now after.out.now

pub writes : {xs : List ℕ} {p q : Page} → q ≡ written_on p xs → Writes xs p q
writes {xs} {p} {q} e =
    record {
      page = e;
      room = ap (λ (r : Page). r.out.ghost_name) e;
      long = ap (λ (r : Page). length r.out.now) e ∙ length_put p.out.now p.at xs;
      wrote = record { ends = ap (λ (r : Page). r.at) e; leaves = ap (λ (r : Page). r.out.now) e };
    }

pub writes_none : (p : Page) → Writes [] p p
writes_none p = writes (ap₂ (paged p) (sym (put_nil p.out.now p.at)) (sym (add-zero p.at)))

pub writes_byte : (p : Page) (b : ℕ) → Writes (b ∷ []) p (paged p (set p.out.now p.at b) (p.at + 1))
writes_byte p b = writes (ap (λ (r : List ℕ). paged p r (p.at + 1)) (set_put p.out.now p.at b))

-- one writer after another
pub writes_then : {xs ys : List ℕ} {p q r : Page} → Writes xs p q → Writes ys q r → Writes (xs ++ ys) p r
writes_then {xs} {ys} {p} {q} {r} v w =
    writes (w.page ∙ ap (λ (s : Page). written_on s ys) v.page ∙ ap₂ (paged p) (sym (put_append p.out.now p.at xs ys)) (simp length-append (omega arith)))
