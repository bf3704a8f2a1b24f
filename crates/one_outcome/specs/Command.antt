-- The contract of each public function of `command` allows one outcome only.
use Rattle.command.proofs as command
use Rattle.one_outcome.specs.Only.{Only, equation, bounded, from}

pub op_of_once : Only command.op_of.Reads.Post (λ _ r _. r)
op_of_once = equation

pub size_of_once : Only command.size_of.Reads.Post (λ _ r _. r)
size_of_once = equation

pub zero_bits_once : Only command.zero_bits.Reads.Post (λ _ r _. r)
zero_bits_once = equation

pub decode_once : Only command.Command.decode.Reads.Post (λ _ r _. r)
decode_once = bounded

pub mirror_once : Only command.Command.mirror.Reads.Post (λ _ r _. r)
mirror_once = equation

pub ndisc_once : Only command.Command.ndisc.Reads.Post (λ _ r _. r)
ndisc_once = equation

pub sec_once : Only command.Command.sec.Reads.Post (λ _ r _. r)
sec_once = bounded

pub int_once : Only command.Command.int.Reads.Post (λ _ r _. r)
int_once = equation

pub list_sec_once : Only command.Command.list_sec.Reads.Post (λ _ r _. r)
list_sec_once = bounded

pub disable_once : Only command.Command.disable.Reads.Post (λ _ r _. r)
disable_once = equation

pub own_once : Only command.Command.own.Reads.Post (λ _ r _. r)
own_once = bounded

pub resolve_once : Only command.Command.resolve.Reads.Post (λ _ r _. r)
resolve_once = bounded

pub list_bytes_once : Only command.Command.list_bytes.Reads.Post (λ _ r _. r)
list_bytes_once = equation

pub read_once : Only command.Source.read.Reads.Post (λ _ r _. r)
read_once = from (λ _ _ _ _ p. p.0)
