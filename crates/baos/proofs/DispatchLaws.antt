-- What holds of every service holds of the one that a message names.
use Prim.Native.Nat.{ℕ}
use mathlib.Core.Path.{◌≡◌, refl}
use mathlib.Core.Bool.{Bool, true, false}
use mathlib.Core.List.{List, []}
use lib.Dec.{eqb}
use borrow.Author.Tests.{eqb-true}
use Rattle.std.specs.Prelude.{if◌then◌else◌}
use Rattle.baos.specs.Table.{Tables}
use Rattle.baos.specs.Message.{sub_service, start_of, coded, Served}
use Rattle.baos.specs.Get.{get_server_item, get_datapoint_description, get_description_string, get_datapoint_value, get_parameter_byte}
use Rattle.baos.specs.Set.{set_server_item, set_datapoint_value, set_parameter_byte}
use Rattle.baos.specs.Service.{service, unanswered, carried_out}

either : {A : Type 0} (P : A → Type 0) (b : Bool) (x y : A) → (b ≡ true → P x) → P y → P (if b then x else y)
either P true x y p q = p refl
either P false x y p q = q

-- each of them where the message names it, and the answer with code 5
pub by_service : (P : Served → Type 0) (t : Tables) (m : List ℕ)
    → (sub_service m ≡ 0x01 → P (get_server_item t m)) → (sub_service m ≡ 0x02 → P (set_server_item t m)) → (sub_service m ≡ 0x03 → P (get_datapoint_description t m))
    → (sub_service m ≡ 0x04 → P (get_description_string t m)) → (sub_service m ≡ 0x05 → P (get_datapoint_value t m)) → (sub_service m ≡ 0x06 → P (set_datapoint_value t m)) → (sub_service m ≡ 0x07 → P (get_parameter_byte t m))
    → (sub_service m ≡ 0x08 → P (set_parameter_byte t m))
    → P (record { says = coded m (start_of m) 5; after = t })
    → P (service t m)
unfolding service
by_service P t m p1 p2 p3 p4 p5 p6 p7 p8 p =
    either P (sub 1) _ _ (λ e. p1 (eqb-true (sub_service m) 1 e))
    (either P (sub 2) _ _ (λ e. p2 (eqb-true (sub_service m) 2 e))
    (either P (sub 3) _ _ (λ e. p3 (eqb-true (sub_service m) 3 e))
    (either P (sub 4) _ _ (λ e. p4 (eqb-true (sub_service m) 4 e))
    (either P (sub 5) _ _ (λ e. p5 (eqb-true (sub_service m) 5 e))
    (either P (sub 6) _ _ (λ e. p6 (eqb-true (sub_service m) 6 e))
    (either P (sub 7) _ _ (λ e. p7 (eqb-true (sub_service m) 7 e)) (either P (sub 8) _ _ (λ e. p8 (eqb-true (sub_service m) 8 e)) p)))))))
  where
    sub : ℕ → Bool
    sub n = eqb (sub_service m) n

-- and where there is no answer
pub by_message : (P : Served → Type 0) (t : Tables) (m : List ℕ) → P (record { says = []; after = t }) → P (service t m) → P (carried_out t m)
unfolding carried_out
by_message P t m p q = either P (unanswered m) _ _ (λ e. p) q
