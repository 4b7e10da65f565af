use Rattle.std.proofs.Common.{sym, subst}
use Rattle.flex_base.specs.Devices.{DeviceState}
use Rattle.flex_base.specs.DeviceLaws.{IsLive}
use Rattle.flex_base.proofs.DeviceLaws.{devices_live}
use Rattle.devices.proofs.devices.Devices.stop.Goals as goal

pub returns-clause-live : goal.returns-clause-live
returns-clause-live c = λ harts input made replay some below.
    let At : DeviceState → Type 0 = λ s. IsLive s in
    subst At (sym replay.state) (devices_live harts made some below)
