-- The exit status of each end of a run: own.
use Rattle.std.specs.Prelude.{ℕ}
use Rattle.cm_core.specs.declared.status.Status.{Status}
use Rattle.cm_core.specs.declared.status.Status.TheVariants.{Clean, Diagnosed, Usage, ReadFault, WriteFault, NoMemory}
use Rattle.cm_core.specs.declared.tool_status.ToolStatus.{ToolStatus}
use Rattle.cm_core.specs.declared.tool_status.ToolStatus.TheVariants as tool

abbrev pub code_of : Status → ℕ
code_of Clean = 0
code_of Diagnosed = 1
code_of Usage = 2
code_of ReadFault = 3
code_of WriteFault = 4
code_of NoMemory = 5

abbrev pub tool_code_of : ToolStatus → ℕ
tool_code_of tool.Clean = 0
tool_code_of tool.Diagnosed = 1
tool_code_of tool.Usage = 2
tool_code_of tool.ReadFault = 3
tool_code_of tool.WriteFault = 4
tool_code_of tool.NoMemory = 5
tool_code_of tool.CacheFault = 6
