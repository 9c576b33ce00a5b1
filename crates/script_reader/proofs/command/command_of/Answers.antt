use Rattle.std.proofs.Common.{ap}
use Rattle.script_reader.specs.Commands.{query_of}
use Rattle.script_reader.proofs.command.command_of.Goals as goal

pub fitting-requires-clause-variables : goal.fitting-requires-clause-variables
fitting-requires-clause-variables c = (c.requires c.in-Ask.query (ap query_of c.in-Ask.is)).1

pub fitting-requires-in-Prepare-clause-variables : goal.fitting-requires-in-Prepare-clause-variables
fitting-requires-in-Prepare-clause-variables c = (c.requires c.in-Prepare.query (ap query_of c.in-Prepare.is)).1
