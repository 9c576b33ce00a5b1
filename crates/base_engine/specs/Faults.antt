-- What is handed on of the faults below a base.
use Rattle.base_store.specs.declared.load.LoadFault.{LoadFault}
use Rattle.base_store.specs.declared.load.LoadFault.TheVariants as load
use Rattle.base_engine.specs.declared.engine.CommitFault.{CommitFault}
use Rattle.base_engine.specs.declared.engine.CommitFault.TheVariants as commit
use Rattle.base_engine.specs.declared.engine.EndFault.{EndFault}
use Rattle.base_engine.specs.declared.engine.EndFault.TheVariants as end

-- a fault of the store while it was loaded
abbrev pub end_of_load : LoadFault → EndFault
end_of_load load.DiskFault = end.DiskFault
end_of_load (load.Damaged area at) = end.Damaged area at
end_of_load load.NoMemory = end.NoMemory

-- a fault of a commit
abbrev pub end_of_commit : CommitFault → EndFault
end_of_commit commit.DiskFault = end.DiskFault
end_of_commit commit.NoMemory = end.NoMemory
