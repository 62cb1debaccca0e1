-- What a data frame is to the link, and the bits and the count after three cases, read off the definitions.
use Rattle.std.proofs.Common.{◌≡◌, ℕ, Bool, true, false, not, sym, ap, ◌∙◌, eq-eqb, ne_eqb}
use Rattle.ft12.specs.declared.rules.Heard.TheVariants.{Dropped, Ignored, Acknowledged, Repeat, Request}
use Rattle.ft12.specs.declared.rules.Bits.{Bits}
use Rattle.words.specs.Words.{is_yes, yes_or_no}
use Rattle.words.proofs.WordLaws.{read_written}
use Rattle.ft12.specs.Record.{host_control}
use Rattle.ft12.specs.Rules.{at_start, start_dropping, cleared, case_of_data, on_heard, bits_of, BitsAfter}

module _ (c n : ℕ) (expected free : Bool) where
  pub data_request : c ≡ host_control expected → free ≡ true → Request n ≡ case_of_data c n expected free
  unfolding case_of_data
  data_request e f = simp (eq-eqb c (host_control expected) e, f)

  pub data_waits : c ≡ host_control expected → free ≡ false → Ignored ≡ case_of_data c n expected free
  unfolding case_of_data
  data_waits e f = simp (eq-eqb c (host_control expected) e, f)

  pub data_repeat : (c ≡ host_control expected → ⊥) → c ≡ host_control (not expected) → Repeat ≡ case_of_data c n expected free
  unfolding case_of_data
  data_repeat e f = simp (ne_eqb c (host_control expected) e, eq-eqb c (host_control (not expected)) f)

module _ (bits : Bits) where
  pub bits_dropped : BitsAfter Dropped bits bits
  unfolding on_heard bits_of start_dropping
  bits_dropped l b e = e

  pub bits_ignored : BitsAfter Ignored bits bits
  unfolding on_heard bits_of at_start
  bits_ignored l b e = e

  pub bits_acknowledged : BitsAfter Acknowledged bits (record { expected = bits.expected; send = yes_or_no (not (is_yes bits.send)); resends = 0 })
  unfolding on_heard bits_of cleared at_start
  bits_acknowledged l b e =
      let s : yes_or_no (not l.send) ≡ yes_or_no (not (is_yes bits.send)) = ap (λ (x : Bool). yes_or_no (not x)) (sym (read_written l.send) ∙ ap is_yes (λ i. (e i).send)) in
      λ i. record { expected = (e i).expected; send = s i; resends = 0 }
