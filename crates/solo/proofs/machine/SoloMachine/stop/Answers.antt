-- The devices' stop is the machine's.
use Rattle.std.proofs.Common.{List, ap, ◌∙◌}
use Rattle.flex_base.specs.Setup.{Setup}
use Rattle.flex_base.specs.FlatMemory.{Done}
use Rattle.flex_base.specs.Devices.{device_stop}
use Rattle.access_record.specs.Buses.{ram_banks}
use Rattle.solo.specs.Solo.{Solo, done_at}
use Rattle.solo.proofs.machine.SoloMachine.stop.Goals as goal

pub returns : goal.returns
returns c = λ setup u at.
    c.stop.ensures
    ∙ ap (λ (s : Solo). device_stop s.bus.run.setup.harts (done_at s.bus (ram_banks s.bus.run))) c.self.view_is
    ∙ ap (λ (x : Setup × List Done). device_stop x.0.harts x.1) (λ i. (at.memory.setup_is i, at.memory.devices i))
