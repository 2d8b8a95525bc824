-- The version of the library, as one number (contract 10.9).
use Rattle.std.specs.Prelude.{ℕ, ◌+◌, ◌*◌}

-- Major, minor and patch, eight bits each from the lowest up
abbrev pub version_number : ℕ → ℕ → ℕ → ℕ
version_number major minor patch = major * 65536 + minor * 256 + patch

abbrev pub version : ℕ
version = version_number 0 4 0
