-- Bytes that were written, said in another way; and those of an answer with a code.
use Prim.Native.Nat.{ℕ, ◌+◌}
use mathlib.Core.List.{List}
use mathlib.Core.Path.{◌≡◌, refl, sym, ◌∙◌, ap}
use lib.ListN.{length}
use Rattle.words.specs.Words.{put}
use Rattle.baos.specs.Message.{coded}
use Rattle.baos.specs.Inner.Promise.{Written}

-- bytes were written, and these are the same
pub written_as : {o : List ℕ} {n : ℕ} (l : List ℕ) (at : ℕ) {bytes says : List ℕ} → Written l at bytes n o → says ≡ bytes → Written l at says n o
written_as l at w e = record { buffer = w.buffer ∙ ap (put l at) (sym e); ends = w.ends ∙ ap (λ (s : List ℕ). at + length s) (sym e) }

-- an answer of seven bytes: where it ends, and that it was put where the answer is due
pub coded_ends : {l : List ℕ} {at : ℕ} (m : List ℕ) (i c : ℕ) {n : ℕ} {o : List ℕ} → Written l at (coded m i c) n o → n ≡ at + 7
unfolding coded
coded_ends m i c w = w.ends

pub coded_says : (l : List ℕ) (at : ℕ) (m : List ℕ) (i c : ℕ) {says : List ℕ} → says ≡ coded m i c → Written l at says (at + 7) (put l at (coded m i c))
unfolding coded
coded_says l at m i c e = written_as l at (record { buffer = refl; ends = refl }) e
