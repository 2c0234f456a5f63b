-- What is known in a user's world.
use Rattle.std.specs.Prelude.{ℕ, Bool, List}
use Rattle.user_names.specs.Users.{name_of}
use Rattle.cp_directory.specs.Users.{DirectoryUser}
use Rattle.machine_devices.specs.UserDirectory.{UserDirectory}
use Rattle.cp_core.specs.declared.world.UserList.{UserList}
use Rattle.cp_core.specs.declared.work.Line.{Line}
use Rattle.cp_core.specs.System.{world_among}

-- the users of a list, as the definitions have them
abbrev pub known_of : UserList → UserDirectory
known_of a = world_among a.users.now a.own a.on.now

-- the world of a user who types a line
abbrev pub world_by : List DirectoryUser → Line → UserDirectory
world_by directory line = world_among directory line.user line.on.items
