-- What calls from other languages answer.
use Rattle.std.specs.Prelude.{ℕ}
use Rattle.pliron_laws.specs.declared.fault.OptError.{OptError}
use Rattle.pliron_laws.specs.declared.fault.OptError.TheVariants.{Memory as WantOfMemory, LiveUse, VerifyBefore, VerifyAfter, Pass}
use Rattle.pliron_driver_buffers.specs.declared.status.CallFailure.{CallFailure}
use Rattle.pliron_driver_buffers.specs.declared.status.CallFailure.TheVariants.{Arguments as ByArguments, Text as ByText, Refused as ByPasses, Memory as ByMemory}
use Rattle.pliron_driver_buffers.specs.declared.status.Status.{Status}
use Rattle.pliron_driver_buffers.specs.declared.status.Status.TheVariants.{Answered, Refused, Text, Arguments, TooSmall, Memory}

-- the numbers by which other languages know them
abbrev pub number_of_status : Status → ℕ
number_of_status Answered = 0
number_of_status Refused = 1
number_of_status Text = 2
number_of_status Arguments = 3
number_of_status TooSmall = 4
number_of_status Memory = 5

abbrev pub status_of_failure : CallFailure → Status
status_of_failure ByArguments = Arguments
status_of_failure ByText = Text
status_of_failure ByPasses = Refused
status_of_failure ByMemory = Memory

abbrev pub failure_of : OptError → CallFailure
failure_of WantOfMemory = ByMemory
failure_of LiveUse = ByPasses
failure_of VerifyBefore = ByPasses
failure_of VerifyAfter = ByPasses
failure_of (Pass code) = ByPasses
