-- What a block waits for, as definitions have it.
use Rattle.v_binding.specs.Clocks as plain
use Rattle.bind_clocks.specs.declared.wait.Waited.{Waited}
use Rattle.bind_clocks.specs.declared.wait.Resetting.{Resetting}
use Rattle.bind_clocks.specs.declared.wait.Wait.{Wait}
use Rattle.bind_clocks.specs.declared.wait.Wait.TheVariants as wait

abbrev pub waited_of : Waited → plain.Waited
waited_of w = record { rising = w.rising; text = w.text.now; root = w.root }

abbrev pub resetting_of : Resetting → plain.Resetting
resetting_of r = record { input = r.input; level = r.level; text = r.text.now }

abbrev pub wait_of : Wait → plain.Wait
wait_of wait.Clock = plain.by_clock
wait_of (wait.ClockAnd r) = plain.by_clock_and (resetting_of r)
wait_of wait.Others = plain.by_others
