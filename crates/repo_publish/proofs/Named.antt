-- The names of the files that are made are paths of files.
use Rattle.std.proofs.Common.{refl}
use Rattle.std.specs.Str.{is_utf8, chars}
use lib.Utf8.{encode}
use Rattle.pkg_names.specs.FileText.{IsFile}
use Rattle.pkg_names.proofs.FileTests.{is_file_text-Decides}
use Rattle.package_book.specs.Book.{contents_name, package_name}

pub contents_named : IsFile contents_name
unfolding is_utf8 chars encode
contents_named = (is_file_text-Decides contents_name).0 refl

pub package_named : IsFile package_name
unfolding is_utf8 chars encode
package_named = (is_file_text-Decides package_name).0 refl
