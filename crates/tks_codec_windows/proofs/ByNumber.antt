-- How windows are packed, in a map that grows.
use Rattle.std.proofs.Common.{Option, Some, None}
use Rattle.tks_pack.specs.declared.settings.Settings.{Settings}

-- these settings, or else those
abbrev pub or_said : Option Settings → Settings → Settings
or_said None other = other
or_said (Some settings) other = settings
