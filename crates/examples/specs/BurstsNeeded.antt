-- What item 8 of document 02 asks of the receiver, that it is at a frame start, is needed: without it the link rules find
-- something else in some burst.
use Rattle.std.specs.Prelude.{ℕ, ◌≡◌, List, []}
use Rattle.ft12.specs.Record.{Line}
use Rattle.ft12.specs.Burst.{contents}
use Rattle.demands.specs.Bursts.{watched}

abbrev pub StartNeeded : Type 0
StartNeeded = ((l : Line) (burst : List ℕ) → watched (λ (at : ℕ). []) 0 l burst ≡ contents burst) → ⊥
