-- The contract of each public function of `act` allows one outcome only; `inner` has those of its private modules.
use Rattle.act.proofs as act
use Rattle.act.proofs.Contracts as inner
use Rattle.one_outcome.specs.Only.{Only, ◌&◌, ◌and◌, equation, both, from}

pub entry_of_once : Only inner.entry_of (λ _ r _. r)
entry_of_once = equation

pub carry_out_once : Only act.carry_out.Reads.Post (λ _ r s. s.0.now & s.1.1.1.1.0.now & r)
carry_out_once = from (λ _ _ _ _ p. p.0 and p.1 and p.2)

pub read_once : Only inner.read (λ _ r s. s.1.1.0.now & r)
read_once = both

pub write_once : Only inner.write (λ _ _ s. s.0.now)
write_once = equation

pub xpwrite_once : Only inner.xpwrite (λ _ _ s. s.0.now)
xpwrite_once = equation

pub xdread_once : Only inner.xdread (λ _ r s. s.0.now & s.1.1.1.1.0.now & r)
xdread_once = from (λ _ _ _ _ p. p.0 and p.1 and p.2)

pub pass_on_once : Only inner.pass_on (λ _ _ s. s.0.now)
pass_on_once = equation

pub mix_once : Only inner.mix (λ _ _ s. s.0.now)
mix_once = equation

pub write_data_once : Only inner.write_data (λ _ _ s. s.0.now)
write_data_once = equation

pub rebuild_once : Only inner.rebuild (λ _ _ s. s.0.now)
rebuild_once = equation

pub regenerate_once : Only inner.regenerate (λ _ _ s. s.0.now)
regenerate_once = equation

pub couple_once : Only inner.couple (λ _ _ s. s.0.now)
couple_once = equation

pub retain_once : Only inner.retain (λ _ _ s. s.0.now)
retain_once = equation

pub xdwriteread_once : Only inner.xdwriteread (λ _ r s. s.0.now & s.1.1.1.1.1.0.now & r)
xdwriteread_once = from (λ _ _ _ _ p. p.0 and p.1 and p.2)
