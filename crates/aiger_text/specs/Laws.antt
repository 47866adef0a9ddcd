-- What the laws of texts say.
use Rattle.std.specs.Prelude.{ℕ, ◌≡◌, List}
use Rattle.aiger_text.specs.declared.fault.AigerErr.{AigerErr}
use Rattle.aiger_text.specs.declared.fault.AigerErr.TheVariants.{NoMemory}
use Rattle.aiger_text.specs.Content.{Content, IsWritten}
use Rattle.aiger_text.specs.Refusals.{IsShort, TextCause}

-- a text has one content at most
abbrev pub OneContent : Type 0
OneContent = (text : List ℕ) (w v : Content) → IsWritten text w → IsWritten text v → w ≡ v

-- a text that has one, and isn't too long, is refused for want of memory alone
abbrev pub NoRefusal : Type 0
NoRefusal = (text : List ℕ) (w : Content) (fault : AigerErr) → IsShort text → IsWritten text w → TextCause text fault → fault ≡ NoMemory
