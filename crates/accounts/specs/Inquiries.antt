-- What a message asks for: the message as it is judged.
use Rattle.std.specs.Prelude.{ℕ, List, [], ◌∷◌, Option, option_map, option_and_then, ◌==◌}
use Rattle.std.specs.List.{find}
use Rattle.codes.specs.RequestTypes.{request_number}
use Rattle.codes.specs.declared.request_type.RequestType.{RequestType}
use Rattle.codes.specs.declared.request_type.RequestType.TheVariants.{Initial, Existing, InitialEmergency, ExistingEmergency, Modification}
use Rattle.names.specs.Names.{number_of}
use Rattle.nas.specs.Uplinks.{Message}
use Rattle.records.specs.declared.configuration.Configuration.{Configuration}
use Rattle.records.specs.Records.{Ue}
use Rattle.verdicts.specs.Cases.{Asked}

abbrev pub request_types : List RequestType
request_types = Initial ∷ Existing ∷ InitialEmergency ∷ ExistingEmergency ∷ Modification ∷ []

-- the request type of this number
abbrev pub request_type_of : ℕ → Option RequestType
request_type_of n = find (λ t. request_number t == n) request_types

-- the DNN goes by its number among these names
abbrev pub inquiry_of : List (List ℕ) → Configuration → Ue → Message → Asked
inquiry_of names configuration ue m = record {
  ue = ue;
  configuration = configuration;
  session = m.session;
  request = option_and_then request_type_of m.request;
  slice = m.slice;
  dnn = option_map (number_of names) m.dnn;
}
