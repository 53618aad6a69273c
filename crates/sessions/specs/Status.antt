-- The exit status of each way in which a session ends early: 2 for what it was given, 3 for what it
-- was refused.
use Rattle.std.specs.Prelude.{ℕ}
use Rattle.sessions.specs.declared.ending.SessionError.{SessionError}
use Rattle.sessions.specs.declared.script.ScriptError.{ScriptError}
use Rattle.sessions.specs.declared.script.ScriptError.TheVariants as script
use Rattle.sessions.specs.declared.ending.SessionError.TheVariants.{Usage, Unreadable, BadCommand, Memory, Write}

abbrev pub exit_status : SessionError → ℕ
exit_status Usage = 2
exit_status Unreadable = 2
exit_status (BadCommand _) = 2
exit_status Memory = 3
exit_status Write = 3

-- how a session ends whose script has no events
abbrev pub of_script : ScriptError → SessionError
of_script (script.BadCommand line) = BadCommand line
of_script script.Memory = Memory
