-- Each kind of line has its letter.
use Rattle.std.proofs.Common.{◌≡◌, ℕ, ◌<◌, ltb, eqb, sym, subst, ltb-true, eqb-true}
use Rattle.cases.specs.declared.kind.Kind.{Kind}
use Rattle.cases.specs.declared.kind.Kind.TheVariants.{Empty, Item, Datapoints, Parameters, Site, Defaults, Start, Host, Mark, Value, Event, Reply, Damage, Link, Tables, Reading, Burst, Text, Remark}
use Rattle.cases.specs.Kind.{kind_of}
use Rattle.cases.proofs.WithinLaws.{either}

abbrev pub Means : Kind → ℕ → Type 0
Means Empty b = b ≡ 0x65
Means Item b = b ≡ 0x69
Means Datapoints b = b ≡ 0x64
Means Parameters b = b ≡ 0x70
Means Site b = b ≡ 0x76
Means Defaults b = b ≡ 0x77
Means Start b = b ≡ 0x73
Means Host b = b ≡ 0x68
Means Mark b = b ≡ 0x6D
Means Value b = b ≡ 0x62
Means Event b = b ≡ 0x6E
Means Reply b = b ≡ 0x72
Means Damage b = b ≡ 0x78
Means Link b = b ≡ 0x6C
Means Tables b = b ≡ 0x74
Means Reading b = b ≡ 0x67
Means Burst b = b ≡ 0x75
Means Text b = b < 0x61
Means Remark b = Unit {0}

means : (b : ℕ) → Means (kind_of b) b
means b =
    either (λ (k : Kind). Means k b) (ltb b 0x61) (λ e. ltb-true b 0x61 e)
    (either (λ (k : Kind). Means k b) (eqb b 0x65) (λ e. eqb-true b 0x65 e)
    (either (λ (k : Kind). Means k b) (eqb b 0x69) (λ e. eqb-true b 0x69 e)
    (either (λ (k : Kind). Means k b) (eqb b 0x64) (λ e. eqb-true b 0x64 e)
    (either (λ (k : Kind). Means k b) (eqb b 0x70) (λ e. eqb-true b 0x70 e)
    (either (λ (k : Kind). Means k b) (eqb b 0x76) (λ e. eqb-true b 0x76 e)
    (either (λ (k : Kind). Means k b) (eqb b 0x77) (λ e. eqb-true b 0x77 e)
    (either (λ (k : Kind). Means k b) (eqb b 0x73) (λ e. eqb-true b 0x73 e)
    (either (λ (k : Kind). Means k b) (eqb b 0x68) (λ e. eqb-true b 0x68 e)
    (either (λ (k : Kind). Means k b) (eqb b 0x6D) (λ e. eqb-true b 0x6D e)
    (either (λ (k : Kind). Means k b) (eqb b 0x62) (λ e. eqb-true b 0x62 e)
    (either (λ (k : Kind). Means k b) (eqb b 0x6E) (λ e. eqb-true b 0x6E e)
    (either (λ (k : Kind). Means k b) (eqb b 0x72) (λ e. eqb-true b 0x72 e)
    (either (λ (k : Kind). Means k b) (eqb b 0x78) (λ e. eqb-true b 0x78 e)
    (either (λ (k : Kind). Means k b) (eqb b 0x6C) (λ e. eqb-true b 0x6C e)
    (either (λ (k : Kind). Means k b) (eqb b 0x74) (λ e. eqb-true b 0x74 e)
    (either (λ (k : Kind). Means k b) (eqb b 0x67) (λ e. eqb-true b 0x67 e)
    (either (λ (k : Kind). Means k b) (eqb b 0x75) (λ e. eqb-true b 0x75 e) tt)))))))))))))))))

pub says : (k : Kind) (b : ℕ) → k ≡ kind_of b → Means k b
says k b e = subst (λ (q : Kind). Means q b) (sym e) (means b)
