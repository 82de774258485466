-- A log in files in memory.
use Rattle.std.specs.Prelude.{ℕ, List, ◌++◌}
use Rattle.gw_log_words.specs.declared.named_log.NamedLog.{NamedLog}
use Rattle.gw_gateway_vectors.specs.declared.parts.named_logs.NamedMemFile.{NamedMemFile}
use Rattle.gw_gateway_vectors.specs.declared.parts.named_logs.MemNamedFiles.{MemNamedFiles}

-- what its files were given, one after the other
abbrev pub given : NamedLog MemNamedFiles NamedMemFile → List ℕ
given log = log.files.left.octets ++ log.file.octets.items
