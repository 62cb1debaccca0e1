-- A number of 32 bits with its sign, as the kit of walks has it.
use mathlib.Core.Path.{refl}
use mir.Syntax.{w32}
use mir.Val.{vint, of_z}
use denote.Copied.{sint_Copied}
use denote.Signed.{SInt, sint_row_laws, sint_Tells, sint_Lawful, sint_Makes}
use Rattle.walks.proofs.Data.{Data}

abbrev pub number_d : Data
number_d =
    record {
      row = SInt w32;
      val = λ z. vint w32 (of_z w32 z);
      tells = sint_Tells w32;
      lawful = λ 𝓛. sint_Lawful 𝓛 w32;
      made = λ 𝓛. sint_Makes 𝓛 w32;
      shr_laws = sint_row_laws w32;
      copied = λ 𝓛. sint_Copied 𝓛 w32;
      silent = λ x f. refl;
    }
