-- Laws of what is compared.
mod Same
