use Rattle.std.proofs.Common.{refl, arith, le-ltb, ne_eqb}
use Rattle.cases.proofs.kind.Kind.of.Goals as goal

pub returns-in_default : goal.returns-in_default
returns-in_default c = rw (le-ltb c.args.letter 0x61 (omega arith), ne_eqb c.args.letter 0x65 (λ e. omega arith), ne_eqb c.args.letter 0x69 (λ e. omega arith), ne_eqb c.args.letter 0x64 (λ e. omega arith), ne_eqb c.args.letter 0x70 (λ e. omega arith), ne_eqb c.args.letter 0x76 (λ e. omega arith), ne_eqb c.args.letter 0x77 (λ e. omega arith), ne_eqb c.args.letter 0x73 (λ e. omega arith), ne_eqb c.args.letter 0x68 (λ e. omega arith), ne_eqb c.args.letter 0x6D (λ e. omega arith), ne_eqb c.args.letter 0x62 (λ e. omega arith), ne_eqb c.args.letter 0x6E (λ e. omega arith), ne_eqb c.args.letter 0x72 (λ e. omega arith), ne_eqb c.args.letter 0x78 (λ e. omega arith), ne_eqb c.args.letter 0x6C (λ e. omega arith), ne_eqb c.args.letter 0x74 (λ e. omega arith), ne_eqb c.args.letter 0x67 (λ e. omega arith), ne_eqb c.args.letter 0x75 (λ e. omega arith)) refl
