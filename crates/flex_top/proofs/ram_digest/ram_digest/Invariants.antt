-- The lines so far are held.
use Rattle.std.proofs.Common.{◌≡◌, ◌*◌}
use Rattle.sha2.specs.Hashers.{Holds256}
use Rattle.flex_base.specs.Place.{ram_base}
use Rattle.flex_base.specs.Setup.{Setup}
use Rattle.flex_base.specs.Unsplit.{Machine}
use Rattle.flex_top.specs.Ram.{AreBanks, bytes_from}
use Rattle.flex_top.proofs.ram_digest.ram_digest.Given as goal

abbrev pub invariant-loop-line : goal.invariant-loop-line
invariant-loop-line l = (setup : Setup) (u : Machine) → setup.ram ≡ l.ram → AreBanks setup u l.banks → Holds256 l.hasher (bytes_from setup u ram_base (64 * l.line))
