mod Steps
mod Eliminations
