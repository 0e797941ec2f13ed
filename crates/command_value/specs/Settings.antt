-- The flags of a new publication, as a command keeps them.
use Rattle.std.specs.Prelude.{Option, option_map}
use Rattle.std.specs.Global.{Vec}
use Rattle.command_value.specs.Plain.{PlainSettings, Word}

abbrev pub settings_of : Option (Vec Word) → Option (Vec Word) → Option Word → Option Word → Option Word → Option Word → Option Word → PlainSettings
settings_of architectures components distribution origin label suite codename =
    record {
      architectures = option_map (λ v. v.items) architectures;
      components = option_map (λ v. v.items) components;
      distribution = distribution;
      origin = origin;
      label = label;
      suite = suite;
      codename = codename;
    }
