-- The services by their sub-service numbers in requests.
use Rattle.std.specs.Prelude.{◌≡◌, ℕ, ◌<◌, ◌≤◌, Result, MatchResult}
use Rattle.baos.specs.declared.service.NoService.{NoService}
use Rattle.baos.specs.declared.service.Service.{Service}
use Rattle.baos.specs.declared.service.Service.TheVariants.{GetServerItem, SetServerItem, GetDatapointDescription}
use Rattle.baos.specs.declared.service.Service.TheVariants.{GetDescriptionString, GetDatapointValue, SetDatapointValue}
use Rattle.baos.specs.declared.service.Service.TheVariants.{GetParameterByte, SetParameterByte}

abbrev pub service_number : Service → ℕ
service_number GetServerItem = 0x01
service_number SetServerItem = 0x02
service_number GetDatapointDescription = 0x03
service_number GetDescriptionString = 0x04
service_number GetDatapointValue = 0x05
service_number SetDatapointValue = 0x06
service_number GetParameterByte = 0x07
service_number SetParameterByte = 0x08

-- the service of this number, or none where the number is not one of the eight
abbrev pub IsService : ℕ → Result Service NoService → Type 0
IsService number r = MatchResult r (λ service. service_number service ≡ number) (λ _. 1 ≤ number → 8 < number)
