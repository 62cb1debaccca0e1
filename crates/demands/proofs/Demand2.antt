-- Demand 2: one outcome for each call, errors that change nothing, frames that read back.
use Prim.Native.Nat.{ℕ}
use mathlib.Core.Path.{◌≡◌, sym, ◌∙◌}
use mathlib.Core.List.{List}
use Rattle.ft12.specs.declared.record.Link.{Link}
use Rattle.baos.specs.Table.{Tables}
use Rattle.calls.specs.Reply.{Reply}
use Rattle.calls.specs.Call.{Called}
use Rattle.calls.specs.Promise.{Leaves}
use Rattle.calls.proofs.CallLaws.{reply_told}
use Rattle.demands.specs.Answers.{SameOutcome, Demand2}
use Rattle.demands.proofs.ErrorLaws.{errors_change_nothing, error_calls_change_nothing}
use Rattle.demands.proofs.ReadBack.{sent_frames_read}
use Rattle.demands.proofs.HostHearsLaws.{host_hears, sent_again, host_hears_all}

module _ (c : Called) where
  same_outcome : (r₁ r₂ : Reply) (t₁ t₂ : Tables) (k₁ k₂ : Link) (out₁ out₂ : List ℕ) → Leaves c r₁ t₁ k₁ out₁ → Leaves c r₂ t₂ k₂ out₂ → SameOutcome r₁ r₂ t₁ t₂ k₁ k₂ out₁ out₂
  same_outcome r₁ r₂ t₁ t₂ k₁ k₂ out₁ out₂ a b =
      record {
        reply = reply_told r₁ r₂ (a.reply ∙ sym b.reply);
        tables = a.tables ∙ sym b.tables;
        link = a.link ∙ sym b.link;
        output = a.output ∙ sym b.output;
      }

  outcome_is : (r : Reply) (t : Tables) (k : Link) (out : List ℕ) → Leaves c r t k out → c ≡ record { reply = r; output = out; tables = t; link = k }
  outcome_is r t k out a =
      λ i. record {
        reply = sym (reply_told r c.reply a.reply) i;
        output = sym a.output i;
        tables = sym a.tables i;
        link = sym a.link i;
      }

pub demand_2 : Demand2
demand_2 =
    record {
      one_outcome = λ e v t k out. same_outcome _;
      outcome_is_call = λ e v t k out. outcome_is _;
      errors_change_nothing = errors_change_nothing;
      error_calls_change_nothing = error_calls_change_nothing;
      sent_frames_read = sent_frames_read;
      host_hears = host_hears;
      sent_again = sent_again;
      host_hears_all = host_hears_all;
    }
