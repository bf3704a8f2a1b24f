-- What becomes of a command: a check decides, or none does, and it is done.
use Rattle.std.specs.Prelude.{ℕ, Bool, cond, ◌≡◌, Result, Ok, Err}
use Rattle.std.proofs.Common.{ap}
use Rattle.sense.specs.declared.Answer.{Answer}
use Rattle.meaning.specs.declared.Act.{Act}
use Rattle.meaning.specs.declared.Seen.{Seen}
use Rattle.meaning.specs.declared.Stop.{Stop}
use Rattle.meaning.specs.declared.Go.{Go}

abbrev pub Decision : Type 0
Decision = Result Go Stop

-- 01's check n decides, seen at w, with answer z
abbrev pub stop : {A : Type 0} → ℕ → Seen → Answer → Result A Stop
stop n w z = Err (record { number = n; seen = w; answer = z })

-- x is done, and z answered
abbrev pub go : Act → Answer → Decision
go x z = Ok (record { act = x; answer = z })

-- what a run of checks says: one decides, or none does
abbrev pub Run : Type 0
Run = Result (Unit {0}) Stop

-- check n decides where b says that it applies
abbrev pub checked : ℕ → Seen → Bool → Answer → Run
checked n w b z = cond b (stop n w z) (Ok tt)

-- what one decision says, its equal says
pub go_same : (x x' : Act) (z z' : Answer) → go x z ≡ go x' z' → (x ≡ x') × (z ≡ z')
go_same x x' z z' e =
    let its : ◌≡◌ {A = Go} (record { act = x; answer = z }) (record { act = x'; answer = z' }) = cc in
    (ap (λ (g : Go). g.act) its, ap (λ (g : Go). g.answer) its)

pub stop_same : (n n' : ℕ) (w w' : Seen) (z z' : Answer) → ◌≡◌ {A = Decision} (stop n w z) (stop n' w' z') → (n ≡ n') × (w ≡ w') × (z ≡ z')
stop_same n n' w w' z z' e =
    let its : ◌≡◌ {A = Stop} (record { number = n; seen = w; answer = z }) (record { number = n'; seen = w'; answer = z' }) = cc in
    (ap (λ (s : Stop). s.number) its, ap (λ (s : Stop). s.seen) its, ap (λ (s : Stop). s.answer) its)
