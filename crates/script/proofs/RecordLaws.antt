-- An array that is written over as a whole.
use Rattle.std.proofs.Common.{◌≡◌, ℕ, ◌+◌, List, [], length, drop, arith, drop_of_length-le, append-nil, refl}
use Rattle.words.specs.Words.{put}

pub put_whole : (l vs : List ℕ) → length vs ≡ length l → put l 0 vs ≡ vs
unfolding put
put_whole l vs e = let d : drop (0 + length vs) l ≡ [] = drop_of_length-le l (omega (arith, e)) in rw (d, append-nil) refl
